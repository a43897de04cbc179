-- In the event in which a server cuts a file it says that this was done, and refuses nothing.
use Rattle.st_lemmas.proofs.Words
use Words.{◌≡◌, ℕ, ◌+◌, ◌⊎◌, Bool, true, false, not, ◌&&◌, ◌||◌, List, [], ◌∷◌, ◌++◌, Ok, refl, sym, ap, ◌∙◌, subst, inl, inr, list_any, FileId, PageNo}
use Words.{ServerId, Stamp, Event, Body, Header, Message, Note, Output, ServerInput, Observation}
use Words.nodes
use Words.notes
use Words.outputs
use Words.seen
use Words.Events as ev
use Words.Events.{WorldTurn, world_step}
use Words.History.{Traced, traced, traced_after}
use Words.Safety.{Step, is_event, step}
use Words.Server as sv
use Words.Server.{ServerState, ServerTurn, reply, tell, steal_from, suspect_client, keep_and_reply, server_step}
use Words.World.{clock_of, fresh_world}
use Words.Lists.{Has}
use Words.Tables.{and_both, has_append, some_passes}
use Words.Members.{has_left, has_right}
use Rattle.st_protocol.specs.Assoc.{Config}
use Rattle.st_lemmas.proofs.Once.{none_any}
use Rattle.st_laws_refine.specs.Server.Pair.{terms_of}
use Rattle.st_laws_leases.specs.Sides.Law.{InEveryRun}
use Rattle.st_laws_leases.proofs.Sides.Runs.{throughout_events}
use Rattle.st_laws_extents.proofs.CutRequests.Law.{Hold, first, same_all}
use Rattle.st_laws_extents.proofs.CutRequests.Seen.{ServedStep, cuts_served, none, server_all}
use Rattle.st_promises.specs.Faults.{refuses}
use Rattle.st_promises.specs.Acknowledgements.{CutsAreAcknowledged, acknowledges, is_cut_line, is_done_line, is_refusal_line}
use Rattle.st_trace.specs.Server.Edits as edits
use Rattle.st_trace.specs.Server.Edits.{AtThefts, AtInput, AtSuspicion, AtGrants, AtDemands, Ruled, Edit, TakesTimers, Steals, Welcomes, Begins, Replaces}
use Rattle.st_trace.specs.Server.Edits.{PutsOff, Sees, Reasserts, Serves, Repeats, Refuses, Suspects, Grants, Demands}
use Rattle.st_trace.proofs.Server.Walk.{walk_in_two}

-- no cut
abbrev pub Never : FileId → PageNo → Type 0
Never f p = ⊥

-- no cut was noted
abbrev pub Uncut : List Output → Type 0
Uncut os = (f : FileId) (p : PageNo) → Has (outputs.Note (notes.CutDone f p)) os → Never f p

-- an output that refuses nothing
abbrev Kind : Output → Type 0
Kind (outputs.Send m) = refuses m.body ≡ false
Kind o = Unit {0}

-- nothing was refused
abbrev Kinds : List Output → Type 0
Kinds os = (o : Output) → Has o os → Kind o

-- it was said that something was done
record Told (os : List Output) : Type 0 where
  pub message : Message
  pub among : Has (outputs.Send message) os
  pub done : acknowledges message.body ≡ true

abbrev Good : List Output → Type 0
Good os = Kinds os × Told os

-- no cut was noted, or it was said that it was done, and nothing was refused
abbrev Fine : List Output → Type 0
Fine os = Uncut os ⊎ Good os

kind_more : (os : List Output) (o : Output) → Kind o → Kinds os → Kinds (os ++ o ∷ [])
kind_more os o k n x h = go (has_append os (o ∷ []) x h)
  where
    go : Has x os ⊎ Has x (o ∷ []) → Kind x
    go (inl i) = n x i
    go (inr (inl e)) = subst Kind (sym e) k
    go (inr (inr i)) = absurd i

good_more : (os : List Output) (o : Output) → Kind o → Good os → Good (os ++ o ∷ [])
good_more os o k g =
    (kind_more os o k g.0, record { message = g.1.message; among = has_left os (o ∷ []) (outputs.Send g.1.message) g.1.among; done = g.1.done })

pub uncut_more : (os : List Output) (o : Output) → ((f : FileId) (p : PageNo) → outputs.Note (notes.CutDone f p) ≡ o → ⊥) → Uncut os → Uncut (os ++ o ∷ [])
uncut_more os o k n f p h = go (has_append os (o ∷ []) (outputs.Note (notes.CutDone f p)) h)
  where
    go : Has (outputs.Note (notes.CutDone f p)) os ⊎ Has (outputs.Note (notes.CutDone f p)) (o ∷ []) → ⊥
    go (inl i) = n f p i
    go (inr (inl e)) = k f p e
    go (inr (inr i)) = absurd i

fine_more : (os : List Output) (o : Output) → ((f : FileId) (p : PageNo) → outputs.Note (notes.CutDone f p) ≡ o → ⊥) → Kind o → Fine os → Fine (os ++ o ∷ [])
fine_more os o k q (inl n) = inl (uncut_more os o k n)
fine_more os o k q (inr g) = inr (good_more os o q g)

-- What the rule of a request makes: it notes no cut, or one of which it says that it was done.
record Cut (t u : ServerTurn) (b : Body) : Type 0 where
  pub file : FileId
  pub page : PageNo
  pub out : u.out ≡ t.out ++ outputs.Note (notes.CutDone file page) ∷ []
  pub done : acknowledges b ≡ true
  pub kind : refuses b ≡ false

ruled : (now : Stamp) (t : ServerTurn) (h : Header) (m : Body) (u : ServerTurn) (b : Body) → Ruled now t h m u b → (u.out ≡ t.out) ⊎ Cut t u b
unfolding sv.cut_pages sv.cut_whole
ruled now t h m u b (edits.Tells _ _ r) = inl refl
ruled now t h m u b (edits.Acquires ino mode a f k g) = inl refl
ruled now t h m u b (edits.Releases ino g to r e f) = inl refl
ruled now t h m u b (edits.Allocates ino g p count x f q e) = inl refl
ruled now t h m u b (edits.Cuts ino g p f q) = inr (record { file = _; page = _; out = refl; done = refl; kind = refl })
ruled now t h m u b (edits.Creates dir x d e) = inl refl
ruled now t h m u b (edits.MakesDir dir x d e) = inl refl
ruled now t h m u b (edits.Renames dir x dir2 x2 d e) = inl refl
ruled now t h m u b (edits.RemovesDir dir x g ino d l f z e q) = inl refl
ruled now t h m u b (edits.RemovesFile dir x g ino d l f z e q) = inr (record { file = _; page = _; out = refl; done = refl; kind = refl })

-- A request that is served.
served : (t u : ServerTurn) (x : Header) (b : Body) → (u.out ≡ t.out) ⊎ Cut t u b → Uncut t.out → Kinds t.out →
    Fine (u.out ++ outputs.Send (record { header = x; body = b }) ∷ [])
served t u x b (inl e) n k = inl (uncut_more u.out _ (λ f p e. cc e) (subst Uncut (sym e) n))
served t u x b (inr z) n k =
    inr (
      kind_more u.out _ z.kind (subst Kinds (sym z.out) (kind_more t.out (outputs.Note (notes.CutDone z.file z.page)) tt k)),
      record { message = record { header = x; body = b }; among = has_right u.out _ _ (inl refl); done = z.done },
    )

module _ (x : ServerState) (now : Stamp) (i : ServerInput) where
  abbrev Begun : ServerTurn → Type 0
  Begun t = Uncut t.out × Kinds t.out

  steals : (t u : ServerTurn) → Edit x now i AtThefts t u → Begun t → Begun u
  unfolding steal_from
  steals t u (TakesTimers _ e) b = b
  steals t u (Steals _ c y h e) b = (uncut_more t.out _ (λ f p e. cc e) b.0, kind_more t.out _ tt b.1)

  takes : (t u : ServerTurn) → Edit x now i AtInput t u → Begun t → Fine u.out
  unfolding reply suspect_client keep_and_reply
  takes t u (Welcomes _ m y g e a f) b = inl (uncut_more t.out _ (λ f p e. cc e) b.0)
  takes t u (Begins _ m g f) b = inl (uncut_more t.out _ (λ f p e. cc e) b.0)
  takes t u (Replaces _ m y g e a f r) b = inl (uncut_more t.out _ (λ f p e. cc e) b.0)
  takes t u (PutsOff _ m y g e a f r) b = inl (uncut_more _ _ (λ f p e. cc e) (uncut_more t.out _ (λ f p e. cc e) b.0))
  takes t u (Sees _ m ino g h k e) b = inl b.0
  takes t u (Reasserts _ m rows r on f) b = inl (uncut_more t.out _ (λ f p e. cc e) b.0)
  takes t u (Serves _ m v k y e r) b = served t v _ k (ruled now t m.header m.body v k r) b.0 b.1
  takes t u (Repeats _ m y k a e f g z) b = inl (uncut_more t.out _ (λ f p e. cc e) b.0)
  takes t u (Refuses _ m k r) b = inl (uncut_more t.out _ (λ f p e. cc e) b.0)

  suspects : (t u : ServerTurn) → Edit x now i AtSuspicion t u → Fine t.out → Fine u.out
  unfolding suspect_client
  suspects t u (Suspects _ c r is q f h e o) k = fine_more t.out _ (λ f p e. cc e) tt k

  grants : (t u : ServerTurn) → Edit x now i AtGrants t u → Fine t.out → Fine u.out
  unfolding tell
  grants t u (Grants _ w off h e f) k = fine_more t.out _ (λ f p e. cc e) refl k

  demands : (t u : ServerTurn) → Edit x now i AtDemands t u → Fine t.out → Fine u.out
  unfolding tell
  demands t u (Demands _ w r y e h f o d) k = fine_more t.out _ (λ f p e. cc e) refl k

  -- the whole step
  stepped : Fine (server_step x now i).out
  stepped =
      walk_in_two x now i Begun (λ t. Fine t.out) steals (λ t b. inl b.0) takes suspects grants demands ((λ f p h. absurd h), (λ o h. absurd h))

-- The lines of a server's outputs.
abbrev Lines : List Observation → Type 0
Lines os = (o : Observation) → Has o os → is_refusal_line o ≡ false

lines_with_last : (os : List Observation) (o : Observation) → is_refusal_line o ≡ false → Lines os → Lines (os ++ o ∷ [])
lines_with_last os o k n x h = go (has_append os (o ∷ []) x h)
  where
    go : Has x os ⊎ Has x (o ∷ []) → is_refusal_line x ≡ false
    go (inl i) = n x i
    go (inr (inl e)) = subst (λ y. is_refusal_line y ≡ false) (sym e) k
    go (inr (inr i)) = absurd i

line_one : (s : ServerId) (o : Output) (sc : WorldTurn) → Kind o → Lines sc.seen → Lines (ev.server_says sc s o).seen
unfolding ev.server_says ev.server_notes ev.cuts ev.sends
line_one s (outputs.Send m) sc k n = lines_with_last sc.seen _ k n
line_one s (outputs.Note x) sc k n = note x
  where
    note : (x : Note) → Lines (ev.server_notes sc s x).seen
    note (notes.Suspected d start) = lines_with_last sc.seen _ refl n
    note (notes.Stolen d life) = lines_with_last sc.seen _ refl n
    note (notes.CutDone f p) = lines_with_last sc.seen _ refl n
    note x = n
line_one s o sc k n = n

line_all : (s : ServerId) (os : List Output) (sc : WorldTurn) → ((o : Output) → Has o os → Kind o) → Lines sc.seen → Lines (ev.server_says_all s os sc).seen
unfolding ev.server_says_all
line_all s [] sc k n = n
line_all s (o ∷ os) sc k n = line_all s os (ev.server_says sc s o) (λ x i. k x (inr i)) (line_one s o sc (k o (inl refl)) n)

-- the line of an acknowledgement is there
Said : List Observation → Type 0
Said os = list_any is_done_line os ≡ true

said_more : (os : List Observation) (o : Observation) → Said os → Said (os ++ o ∷ [])
unfolding Said
said_more [] o e = cc e
said_more (x ∷ os) o e = go (is_done_line x) e (said_more os o)
  where
    go : (b : Bool) → (b || list_any is_done_line os) ≡ true → (list_any is_done_line os ≡ true → list_any is_done_line (os ++ o ∷ []) ≡ true) →
        (b || list_any is_done_line (os ++ o ∷ [])) ≡ true
    go true e f = refl
    go false e f = f e

said_one : (s : ServerId) (o : Output) (sc : WorldTurn) → Said sc.seen → Said (ev.server_says sc s o).seen
unfolding ev.server_says ev.server_notes ev.cuts ev.sends
said_one s (outputs.Send m) sc n = said_more sc.seen _ n
said_one s (outputs.Note x) sc n = note x
  where
    note : (x : Note) → Said (ev.server_notes sc s x).seen
    note (notes.Suspected d start) = said_more sc.seen _ n
    note (notes.Stolen d life) = said_more sc.seen _ n
    note (notes.CutDone f p) = said_more sc.seen _ n
    note x = n
said_one s o sc n = n

said_all : (s : ServerId) (os : List Output) (sc : WorldTurn) → Said sc.seen → Said (ev.server_says_all s os sc).seen
unfolding ev.server_says_all
said_all s [] sc n = n
said_all s (o ∷ os) sc n = said_all s os (ev.server_says sc s o) (said_one s o sc n)

says : (s : ServerId) (os : List Output) (sc : WorldTurn) (m : Message) → Has (outputs.Send m) os → acknowledges m.body ≡ true →
    Said (ev.server_says_all s os sc).seen
unfolding ev.server_says_all ev.server_says ev.sends Said
says s [] sc m h d = absurd h
says s (o ∷ os) sc m (inl e) d = said_all s os (ev.server_says sc s o) (subst (λ x. Said (ev.server_says sc s x).seen) e here)
  where
    here : Said (ev.server_says sc s (outputs.Send m)).seen
    here = some_passes is_done_line _ (seen.Sent _ m) (has_right sc.seen _ _ (inl refl)) d
says s (o ∷ os) sc m (inr h) d = says s os (ev.server_says sc s o) m h d

-- the line of a cut
pub there : (os : List Observation) → list_any is_cut_line os ≡ true → (index : ℕ) × (f : FileId) × (p : PageNo) × Has (seen.CutAt index f p) os
there [] e = cc e
there (o ∷ os) e = go o refl (is_cut_line o) refl e (there os)
  where
    cut : (x : Observation) → o ≡ x → is_cut_line x ≡ true → (index : ℕ) × (f : FileId) × (p : PageNo) × Has (seen.CutAt index f p) (o ∷ os)
    cut (seen.CutAt index f p) q r = (index, f, p, inl (sym q))
    cut x q r = cc r

    go : (x : Observation) → o ≡ x → (b : Bool) → is_cut_line o ≡ b → (b || list_any is_cut_line os) ≡ true →
        (list_any is_cut_line os ≡ true → (index : ℕ) × (f : FileId) × (p : PageNo) × Has (seen.CutAt index f p) os) →
        (index : ℕ) × (f : FileId) × (p : PageNo) × Has (seen.CutAt index f p) (o ∷ os)
    go x q true r e k = cut x q (ap is_cut_line (sym q) ∙ r)
    go x q false r e k = let z = k e in (z.0, z.1, z.2, inr z.3)

-- a step of a server that logs a cut
acknowledged : (w : Rattle.st_rules.specs.World.World) (e : Event) (sc : WorldTurn) (index : ℕ) (f : FileId) (p : PageNo) → ServedStep w e sc f p →
    Has (seen.CutAt index f p) sc.seen → (list_any is_done_line sc.seen && not (list_any is_refusal_line sc.seen)) ≡ true
unfolding Said
acknowledged w e sc index f p z h = go (stepped z.node.state (clock_of w (nodes.Server z.who)) z.input)
  where
    here : WorldTurn
    here = ev.server_says_all z.who (server_step z.node.state (clock_of w (nodes.Server z.who)) z.input).out z.start

    lined : Has (seen.CutAt index f p) here.seen
    lined = subst (λ (x : WorldTurn). Has (seen.CutAt index f p) x.seen) z.is h

    back : (list_any is_done_line here.seen && not (list_any is_refusal_line here.seen)) ≡ true →
        (list_any is_done_line sc.seen && not (list_any is_refusal_line sc.seen)) ≡ true
    back e = subst (λ (x : WorldTurn). (list_any is_done_line x.seen && not (list_any is_refusal_line x.seen)) ≡ true) (sym z.is) e

    go : Fine (server_step z.node.state (clock_of w (nodes.Server z.who)) z.input).out →
        (list_any is_done_line sc.seen && not (list_any is_refusal_line sc.seen)) ≡ true
    go (inl n) = absurd (server_all Never z.who (server_step z.node.state (clock_of w (nodes.Server z.who)) z.input).out z.start n
        (subst (λ os. (i : ℕ) (g : FileId) (q : PageNo) → Has (seen.CutAt i g q) os → ⊥) (sym z.empty) (none Never)) index f p lined)
    go (inr g) =
        back (and_both _ _ (says z.who (server_step z.node.state (clock_of w (nodes.Server z.who)) z.input).out z.start g.1.message g.1.among g.1.done)
        (ap not (none_any is_refusal_line here.seen
        (line_all z.who (server_step z.node.state (clock_of w (nodes.Server z.who)) z.input).out z.start g.0
        (subst Lines (sym z.empty) (λ o i. absurd i))))))

-- Every event, and whole runs.
one : (k : Config) (count : ℕ) (past : List Step) (t : Traced) (e : Event) (sc : WorldTurn) → is_event count e ≡ true → Hold k count past t →
    world_step t.world e ≡ Ok sc → CutsAreAcknowledged past (step t e sc) × Hold k count (past ++ step t e sc ∷ []) (traced_after e t sc)
one k count past t e sc r h taken = (go (list_any is_cut_line sc.seen) refl, (same_all k count past t e sc r h taken).0)
  where
    go : (b : Bool) → list_any is_cut_line sc.seen ≡ b → (not b || (list_any is_done_line sc.seen && not (list_any is_refusal_line sc.seen))) ≡ true
    go false q = refl
    go true q = let z = there sc.seen q in
        acknowledged (ev.counted t.world) e sc z.0 z.1 z.2 (cuts_served t.world e sc (λ s n at. (h.cuts.servers s n at).id) taken z.0 z.1 z.2 z.3) z.3

pub cuts_are_acknowledged : InEveryRun CutsAreAcknowledged
cuts_are_acknowledged k clients servers disks blocks form es head events =
    throughout_events (clients + servers) CutsAreAcknowledged (Hold (terms_of k) (clients + servers))
    (one (terms_of k) (clients + servers)) es events [] (traced (fresh_world k clients servers disks blocks form))
    (first k clients servers disks blocks form head)
