-- A server that notes a cut has served the request for it: a cut that it acknowledges, or the removal of a file.
use Rattle.st_lemmas.proofs.Words
use Words.{◌≡◌, ℕ, ◌⊎◌, true, not, ◌&&◌, ◌==◌, List, [], ◌∷◌, ◌++◌, Option, Some, None, Ok, refl, sym, ap, subst, inl, inr, eq-eqb, is_some}
use Words.{option_map, FileId, GrantNo, PageNo, Stamp, Body, Header, Message, NameOp, Output, ServerInput, Suspect}
use Words.bodies
use Words.notes
use Words.ops
use Words.outputs
use Words.replies
use Words.why
use Words.serving.{Tick, Control}
use Words.Authority as authority
use Words.Keys.{page_no, server_node}
use Words.Lists.{Has}
use Words.Names as names
use Words.Server as sv
use Words.Server.{ServerState, ServerTurn, is_client_node, keep_and_reply, reply, server_step, steal_from, suspect_client, tell}
use Words.Tables.{and_both, has_append}
use Rattle.st_trace.specs.Server.Edits.{AtThefts, AtInput, AtSuspicion, AtGrants, AtDemands, Edit, Ruled, Served, TakesTimers, Steals, Welcomes, Begins}
use Rattle.st_trace.specs.Server.Edits.{Replaces, PutsOff, Sees, Reasserts, Serves, Repeats, Refuses, Suspects, Grants, Demands, Tells, Acquires, Releases}
use Rattle.st_trace.specs.Server.Edits.{Allocates, Cuts, Creates, MakesDir, Renames, RemovesDir, RemovesFile}
use Rattle.st_trace.proofs.Server.Input.{walk_of_thefts}
use Rattle.st_trace.proofs.Server.Walk.{walk_in_two}
use Rattle.st_laws_volume.specs.Witness.{is_fresh, is_in_turn, serves}

-- A cut is noted.
abbrev pub Noted : List Output → FileId → PageNo → Type 0
Noted os f p = Has (outputs.Note (notes.CutDone f p)) os

-- one more output that notes none
not_last : (os : List Output) (o : Output) → ((f : FileId) (p : PageNo) → outputs.Note (notes.CutDone f p) ≡ o → ⊥) → (f : FileId) (p : PageNo) →
    Noted (os ++ o ∷ []) f p →
    Noted os f p
not_last os o k f p h = go (has_append os (o ∷ []) (outputs.Note (notes.CutDone f p)) h)
  where
    go : Noted os f p ⊎ Noted (o ∷ []) f p → Noted os f p
    go (inl i) = i
    go (inr (inl e)) = absurd (k f p e)
    go (inr (inr i)) = absurd i

-- Requests other than greetings, reassertions and sights of a demand.
pub record IsPlain (b : Body) : Type 0 where
  pub suspect : (t : ServerTurn) (h : Header) (start : Stamp) → sv.refuse_suspect t h start b ≡ sv.reply t h (bodies.Nack why.Suspect start.0 0)
  pub body : (t : ServerTurn) (now : Stamp) (h : Header) → sv.by_body t now h b ≡ sv.of_epoch t now h b
  pub request : (t : ServerTurn) (now : Stamp) (h : Header) → sv.request t now h b ≡ sv.request_by t now h b (sv.take t h)

pub cut_plain : (ino : ℕ) (g : GrantNo) (from : PageNo) → IsPlain (bodies.Cut ino g from)
unfolding sv.refuse_suspect sv.by_body sv.request
cut_plain ino g from = record { suspect = λ t h start. refl; body = λ t now h. refl; request = λ t now h. refl }

pub name_plain : (op : NameOp) → IsPlain (bodies.Name op)
unfolding sv.refuse_suspect sv.by_body sv.request
name_plain op = record { suspect = λ t h start. refl; body = λ t now h. refl; request = λ t now h. refl }

-- A removal that is noted is of a file, and tells its inode.
pub record Removal (t : ServerTurn) (op : NameOp) (f : FileId) (p : PageNo) : Type 0 where
  pub dir : ℕ
  pub name : List ℕ
  pub g : GrantNo
  pub is : op ≡ ops.Remove dir name g
  pub there : ℕ
  pub found : names.lookup t.state.stable.names dir name ≡ Ok there
  pub is_file : names.is_file t.state.stable.names there ≡ true
  pub changed : names.Changed
  pub removed : names.remove t.state.stable.names dir name ≡ Ok changed
  pub file : f ≡ sv.file t changed.ino
  pub page : p ≡ page_no 0

-- What the rule of a request notes: the cut that is asked for, which it acknowledges, or the removal of a file.
pub data Notes (t : ServerTurn) (f : FileId) (p : PageNo) (m b : Body) : Type 0 where
  ByCut : (ino : ℕ) (g : GrantNo) (from : PageNo) → m ≡ bodies.Cut ino g from → b ≡ bodies.Ack → f ≡ sv.file t ino → p ≡ from → Notes t f p m b
  ByRemoval : (op : NameOp) (r : Removal t op f p) → m ≡ bodies.Name op → b ≡ bodies.Named (replies.Ino r.changed.ino) → Notes t f p m b

abbrev file_noted : Output → FileId → FileId
file_noted (outputs.Note (notes.CutDone f p)) g = f
file_noted o g = g

abbrev page_noted : Output → PageNo → PageNo
page_noted (outputs.Note (notes.CutDone f p)) q = p
page_noted o q = q

-- the last output notes it
cut_last : (os : List Output) (g f : FileId) (q p : PageNo) → (Noted os f p → ⊥) → Noted (os ++ outputs.Note (notes.CutDone g q) ∷ []) f p → (f ≡ g) × (p ≡ q)
cut_last os g f q p none h = go (has_append os (outputs.Note (notes.CutDone g q) ∷ []) (outputs.Note (notes.CutDone f p)) h)
  where
    go : Noted os f p ⊎ Noted (outputs.Note (notes.CutDone g q) ∷ []) f p → (f ≡ g) × (p ≡ q)
    go (inl i) = absurd (none i)
    go (inr (inl e)) = (ap (λ o. file_noted o f) e, ap (λ o. page_noted o p) e)
    go (inr (inr i)) = absurd i

rule_notes : (f : FileId) (p : PageNo) (now : Stamp) (t : ServerTurn) (h : Header) (m : Body) (u : ServerTurn) (b : Body) → Ruled now t h m u b →
    (Noted t.out f p → ⊥) → Noted u.out f p →
    Notes t f p m b
unfolding sv.cut_pages sv.cut_whole
rule_notes f p now t h m u b (Tells _ _ r) none n = absurd (none n)
rule_notes f p now t h m u b (Acquires ino mode a k l g) none n = absurd (none n)
rule_notes f p now t h m u b (Releases ino g to r e k) none n = absurd (none n)
rule_notes f p now t h m u b (Allocates ino g q count x k l e) none n = absurd (none n)
rule_notes f p now t h m u b (Cuts ino g q k l) none n = let z = cut_last t.out (sv.file t ino) f q p none n in ByCut ino g q refl refl z.0 z.1
rule_notes f p now t h m u b (Creates dir x d e) none n = absurd (none n)
rule_notes f p now t h m u b (MakesDir dir x d e) none n = absurd (none n)
rule_notes f p now t h m u b (Renames dir x dir2 x2 d e) none n = absurd (none n)
rule_notes f p now t h m u b (RemovesDir dir x g ino d l k z e q) none n = absurd (none n)
rule_notes f p now t h m u b (RemovesFile dir x g ino d l k z e q) none n =
    let y = cut_last t.out (sv.file t d.ino) f (page_no 0) p none n in
    ByRemoval (ops.Remove dir x g)
    (record {
      dir = dir;
      name = x;
      g = g;
      is = refl;
      there = ino;
      found = l;
      is_file = k;
      changed = d;
      removed = e;
      file = y.0;
      page = y.1;
    }) refl refl

-- no theft notes a cut
steals_note_none : (x : ServerState) (now : Stamp) (i : ServerInput) (f : FileId) (p : PageNo) (t u : ServerTurn) → Edit x now i AtThefts t u →
    (Noted t.out f p → ⊥) → Noted u.out f p → ⊥
unfolding steal_from
steals_note_none x now i f p t u (TakesTimers _ e) none n = none n
steals_note_none x now i f p t u (Steals _ c y h e) none n = none (not_last t.out _ (λ f p e. cc e) f p n)

pub no_theft : (x : ServerState) (now : Stamp) (f : FileId) (p : PageNo) → Noted (sv.thefts (sv.turn x []) now).out f p → ⊥
no_theft x now f p = walk_of_thefts x now Tick (λ t. Noted t.out f p → ⊥) (steals_note_none x now Tick f p) (λ h. absurd h)

-- The request that a server serves in a step that notes a cut.
pub record Serving (now : Stamp) (f : FileId) (p : PageNo) (t : ServerTurn) (m : Message) : Type 0 where
  pub answer : Body
  pub taken : serves t m.header ≡ true
  pub ruled : (sv.rule t now m.header m.body).reply ≡ Some answer
  pub noted : Notes t f p m.body answer

-- a client that isn't a suspect has no timer
no_timer : (o : Option Suspect) → not (is_some o) ≡ true → not (is_some (option_map authority.start_of o)) ≡ true
no_timer None e = refl
no_timer (Some s) e = cc

same_message : (m k : Message) → Control m ≡ Control k → m ≡ k
same_message m k e = cc

pub served_so : (x : ServerState) (now : Stamp) (i : ServerInput) (t : ServerTurn) (m : Message) → Served x now i t m → serves t m.header ≡ true
served_so x now i t m s =
    let came = s.asked.heard.came in
    and_both (sv.is_for t.state m.header && not (is_some (authority.started t.state.authority (sv.sender m.header)))) (is_in_turn t m.header)
    (and_both (sv.is_for t.state m.header) (not (is_some (authority.started t.state.authority (sv.sender m.header))))
    (and_both (m.header.to == server_node t.state.id) (is_client_node m.header.from) (eq-eqb _ _ came.there) came.from)
    (no_timer (authority.suspect_of t.state.authority (sv.sender m.header)) s.asked.heard.free))
    (and_both (m.header.epoch == t.state.stable.epoch.0) (is_fresh (sv.take t m.header)) (eq-eqb _ _ s.asked.epoch) (ap is_fresh s.fresh))

module _ (x : ServerState) (now : Stamp) (m : Message) (f : FileId) (p : PageNo) where
  abbrev NoCut : ServerTurn → Type 0
  NoCut t = Noted t.out f p → ⊥

  abbrev T : ServerTurn
  T = sv.thefts (sv.turn x []) now

  abbrev Comes : ServerTurn → Type 0
  Comes t = Noted t.out f p → Serving now f p T m

  by_rule : (t : ServerTurn) (k : Message) (v : ServerTurn) (c : Body) → Served x now (Control m) t k → sv.rule t now k.header k.body ≡ sv.replied v c →
      Ruled now t k.header k.body v c →
      NoCut t → Noted v.out f p → Serving now f p T m
  by_rule t k v c y e r none n =
      subst (λ (j : Message). Serving now f p T j) (sym (same_message m k y.asked.heard.came.is))
      (subst (λ (s : ServerTurn). Serving now f p s k) y.asked.heard.came.first
      (record {
        answer = c;
        taken = served_so x now (Control m) t k y;
        ruled = ap (λ (z : sv.Replied). z.reply) e;
        noted = rule_notes f p now t k.header k.body v c r none n;
      }))

  takes : (t u : ServerTurn) → Edit x now (Control m) AtInput t u → NoCut t → Comes u
  unfolding reply suspect_client keep_and_reply
  takes t u (Welcomes _ k y g e a q) none n = absurd (none (not_last t.out _ (λ f p e. cc e) f p n))
  takes t u (Begins _ k g q) none n = absurd (none (not_last t.out _ (λ f p e. cc e) f p n))
  takes t u (Replaces _ k y g e a q r) none n = absurd (none (not_last t.out _ (λ f p e. cc e) f p n))
  takes t u (PutsOff _ k y g e a q r) none n = absurd (none (not_last t.out _ (λ f p e. cc e) f p (not_last _ _ (λ f p e. cc e) f p n)))
  takes t u (Sees _ k ino g h q e) none n = absurd (none n)
  takes t u (Reasserts _ k rows r on q) none n = absurd (none (not_last t.out _ (λ f p e. cc e) f p n))
  takes t u (Serves _ k v c y e r) none n = by_rule t k v c y e r none (not_last v.out _ (λ f p e. cc e) f p n)
  takes t u (Repeats _ k y c a e g q z) none n = absurd (none (not_last t.out _ (λ f p e. cc e) f p n))
  takes t u (Refuses _ k c r) none n = absurd (none (not_last t.out _ (λ f p e. cc e) f p n))

  suspects : (t u : ServerTurn) → Edit x now (Control m) AtSuspicion t u → Comes t → Comes u
  unfolding suspect_client
  suspects t u (Suspects _ c r is q z h e o) comes n = comes (not_last t.out _ (λ f p e. cc e) f p n)

  grants : (t u : ServerTurn) → Edit x now (Control m) AtGrants t u → Comes t → Comes u
  unfolding tell
  grants t u (Grants _ w off h e q) comes n = comes (not_last t.out _ (λ f p e. cc e) f p n)

  demands : (t u : ServerTurn) → Edit x now (Control m) AtDemands t u → Comes t → Comes u
  unfolding tell
  demands t u (Demands _ w r y e h q o d) comes n = comes (not_last t.out _ (λ f p e. cc e) f p n)

  pub serving : Noted (server_step x now (Control m)).out f p → Serving now f p T m
  serving =
      walk_in_two x now (Control m) NoCut Comes (steals_note_none x now (Control m) f p) (λ t none n. absurd (none n)) takes suspects grants demands
      (λ h. absurd h)
