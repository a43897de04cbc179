-- The lines of a step: each submitted write carries the content of the log at it.
use Rattle.st_lemmas.proofs.Words
use Words.{◌≡◌, ℕ, ◌+◌, Bool, true, false, List, [], ◌∷◌, ◌++◌, Option, Some, None, Ok, Err, refl, sym, ap, ◌∙◌, subst, append_assoc, if◌then◌else◌, length}
use Words.{Command, ClientId, Life, ServerId, Ask, Event, Note, Output, Fate, LogEntry, Observation, append-nil}
use Words.commands
use Words.notes
use Words.outputs
use Words.fates
use Words.seen
use Words.Client as cl
use Words.ClientState.{ClientState}
use Words.Events as ev
use Words.Events.{WorldTurn, client_notes, client_says, client_says_all, counted, happens, present_life, world_step}
use Words.FlatLog as log
use Words.History.{Traced}
use Words.Lines.{AtEach, log_behind, log_told}
use Words.Safety.{Step, step}
use Words.World.{World, WorldClient, life_with, numbered, site_of}
use Words.Numbers.{numbered_own}
use Rattle.st_rules.specs.declared.node.StepRefusal.TheVariants.{Crashed}
use Rattle.st_protocol.specs.Assoc.{Config}
use Rattle.st_laws_refine.proofs.Client.World.{lives_same, told_one}
use Rattle.st_laws_leases.specs.Sides.World.{AllStand}
use Rattle.st_laws_reads.specs.Copies.Copies.{Right, RightBehind, RightOne}
use Rattle.st_laws_reads.specs.Copies.World.{Taking, taken, turn_of}
use Rattle.st_laws_reads.specs.AllClients.CarriedContents.{CarriesContent, IsCarried}
use Rattle.st_laws_reads.specs.AllClients.World.{CopiesHold, TakingOwed}
use Rattle.st_laws_reads.proofs.AllClients.Reading.{known}
use Rattle.st_laws_reads.proofs.AllClients.Untaken.{others}
use Rattle.st_laws_reads.proofs.AllClients.Takings.{Takes, keeps, mine_there}
use Rattle.st_laws_pages.proofs.Causes.HardSeen.{at_both, told_both}

-- what is observed of outputs
record SeenCarried (v : World) (old : List Observation) (sc : WorldTurn) (new : WorldTurn) : Type 0 where
  more : List Observation
  is : new.seen ≡ old ++ more
  right : AtEach IsCarried v sc.world.log more
  told : log_told v sc.world.log more ≡ new.world.log

module _ (asked : ℕ → Option Ask) (v : World) (c : ClientId) (before : ClientState) where
  seen_one : (last : Option Output) (o : Output) (sc : WorldTurn) → ◌≡◌ {A = ServerId → Life} (present_life v c) (present_life sc.world c) → RightOne asked c (present_life sc.world c) last sc.world.log o → SeenCarried v sc.seen sc (client_says sc c before o)
  unfolding client_says ev.sends ev.submits ev.answers_with client_notes ev.accepts ev.patches ev.loses AtEach log_behind log_told
  seen_one last (outputs.Send m) sc l r = record { more = _ ∷ []; is = refl; right = (tt, tt); told = refl }
  seen_one last (outputs.Answer op a) sc l r = record { more = seen.Answered c op a ∷ []; is = refl; right = (tt, tt); told = refl }
  seen_one last (outputs.Submit n at what) sc l r = go (site_of sc.world c)
    where
      carried : (x : Command) → RightOne asked c (present_life sc.world c) last sc.world.log (outputs.Submit n at x) → CarriesContent sc.world.log x
      carried (commands.Write to tag bytes) r = r
      carried (commands.Read to) r = tt

      go : (o : Option WorldClient) → SeenCarried v sc.seen sc (ev.submits sc c o n at what)
      go None = record { more = []; is = sym (append-nil sc.seen); right = tt; told = refl }
      go (Some s) = record { more = _ ∷ []; is = refl; right = (carried what r, tt); told = refl }
  seen_one last (outputs.Note n) sc l r = note n
    where
      note : (n : Note) → SeenCarried v sc.seen sc (client_notes sc c before n)
      note (notes.Leased s end) = record { more = seen.Leased c s end ∷ []; is = refl; right = (tt, tt); told = refl }
      note (notes.Lost s life) = record { more = seen.Lost c s life ∷ []; is = refl; right = (tt, tt); told = refl }
      note (notes.Accepted f p bytes) = record { more = seen.Wrote (length sc.world.log + 1) c f p bytes ∷ []; is = refl; right = (tt, tt); told = ap (λ (u : ServerId → Life). log.accept sc.world.log c (u f.server) f p bytes) l }
      note (notes.Patched f p at bytes) = record { more = seen.Patched (length sc.world.log + 1) c f p at bytes ∷ []; is = refl; right = (tt, tt); told = ap (λ (u : ServerId → Life). log.patch sc.world.log c (u f.server) f p at bytes) l }
      note n = record { more = []; is = sym (append-nil sc.seen); right = tt; told = refl }

  seen_all : (last : Option Output) (os : List Output) (sc : WorldTurn) → ◌≡◌ {A = ServerId → Life} (present_life v c) (present_life sc.world c) → RightBehind asked c (present_life sc.world c) last sc.world.log os → SeenCarried v sc.seen sc (client_says_all c before os sc)
  unfolding client_says_all AtEach log_told
  seen_all last [] sc l r = record { more = []; is = sym (append-nil sc.seen); right = tt; told = refl }
  seen_all last (o ∷ os) sc l r =
      let u : WorldTurn = client_says sc c before o in
      let t = told_one c before o sc in
      let p = seen_one last o sc l r.one in
      let lives = lives_same c sc.world u.world t.clients in
      let q = seen_all (Some o) os u (l ∙ sym lives) (subst (λ z. RightBehind asked c z (Some o) u.world.log os) (sym lives) (subst (λ y. RightBehind asked c (present_life sc.world c) (Some o) y os) (sym t.log) r.rest)) in
      record {
        more = p.more ++ q.more;
        is = q.is ∙ ap (λ y. y ++ q.more) p.is ∙ append_assoc sc.seen p.more q.more;
        right = at_both IsCarried v sc.world.log p.more q.more p.right (subst (λ y. AtEach IsCarried v y q.more) (sym p.told) q.right);
        told = told_both v sc.world.log p.more q.more ∙ ap (λ y. log_told v y q.more) p.told ∙ q.told;
      }

-- When a client takes an input.
module _ (k : Config) (count : ℕ) (past : List Step) (t : Traced) (e : Event) (sc : WorldTurn) (x : Taking) (all : AllStand k count t.world) (after : AllStand k count sc.world) (is : world_step t.world e ≡ Ok sc) (q : taken (counted t.world) e ≡ Some x) (tk : Takes (counted t.world) sc x) where
  abbrev asks : ℕ → ℕ → Option Ask
  asks = known (past ++ step t e sc ∷ [])

  abbrev mine : WorldClient
  mine = ev.at_node (cl.node_turn x.site.node (turn_of x)).node x.site

  abbrev v : World
  v = ev.with_site x.client mine x.world

  took : (b : Bool) → WorldTurn
  took b = ev.client_took x.world x.client x.site (if b then Ok (cl.node_turn x.site.node (turn_of x)) else Err Crashed)

  unread : x.site.node.running ≡ false → AtEach IsCarried sc.world t.world.log sc.seen
  unfolding ev.client_takes ev.client_took cl.node_step AtEach took
  unread r = subst (λ os. AtEach IsCarried sc.world t.world.log os) (sym (ap (λ (z : WorldTurn). z.seen) tk.is ∙ ap (λ b. (took b).seen) r)) tt

  read : x.site.node.running ≡ true → TakingOwed asks x → CopiesHold asks t.world → AtEach IsCarried sc.world t.world.log sc.seen
  unfolding ev.client_takes ev.client_took cl.node_step took
  read r owed h = subst (λ l. AtEach IsCarried sc.world l sc.seen) tk.log (subst (λ os. AtEach IsCarried sc.world x.world.log os) (sym (said ∙ right.is)) right.right)
    where
      said : sc.seen ≡ (client_says_all x.client x.site.node.state (turn_of x).out (ev.quiet v)).seen
      said = ap (λ (z : WorldTurn). z.seen) tk.is ∙ ap (λ b. (took b).seen) r

      here : site_of v x.client ≡ Some mine
      here = numbered_own x.world.clients x.client.0 mine tk.old (ap (λ cs. numbered cs x.client.0) tk.clients ∙ tk.there)

      left : site_of sc.world x.client ≡ Some mine
      left = mine_there asks k count t.world e sc x all after is q tk owed h r

      lives : ◌≡◌ {A = ServerId → Life} (present_life sc.world x.client) (present_life v x.client)
      lives = ap {B = ServerId → Life} (λ (o : Option WorldClient). λ (s : ServerId). ev.life_of_site s o) (left ∙ sym here)

      present : ◌≡◌ {A = ServerId → Life} (life_with (turn_of x).state) (present_life v x.client)
      present = ap {B = ServerId → Life} (λ (o : Option WorldClient). λ (s : ServerId). ev.life_of_site s o) (sym here)

      right : SeenCarried sc.world [] (ev.quiet v) (client_says_all x.client x.site.node.state (turn_of x).out (ev.quiet v))
      right =
          seen_all (asks x.client.0) sc.world x.client x.site.node.state None (turn_of x).out (ev.quiet v) lives
          (subst (λ ls. Right (asks x.client.0) x.client ls x.world.log (turn_of x).out) present (keeps asks k count t.world e sc x all after is q tk owed h r).right)

  pub carried_taken : TakingOwed asks x → CopiesHold asks t.world → AtEach IsCarried sc.world t.world.log sc.seen
  carried_taken owed h = go x.site.node.running refl
    where
      go : (b : Bool) → x.site.node.running ≡ b → AtEach IsCarried sc.world t.world.log sc.seen
      go true r = read r owed h
      go false r = unread r

-- Every other event submits nothing.
abbrev Silent : Observation → Type 0
Silent (seen.Submitted k c number what) = ⊥
Silent o = Unit {0}

abbrev AllSilent : List Observation → Type 0
AllSilent [] = Unit {0}
AllSilent (o ∷ os) = record { one : Silent o; rest : AllSilent os }

silent_one : (es : List LogEntry) (o : Observation) → Silent o → IsCarried es o
silent_one es (seen.Submitted k c number what) d = absurd d
silent_one es o d = tt

pub silent_carried : (w : World) (es : List LogEntry) (os : List Observation) → AllSilent os → AtEach IsCarried w es os
unfolding AtEach
silent_carried w es [] d = tt
silent_carried w es (o ∷ os) d = (silent_one es o d.one, silent_carried w (log_behind w es o) os d.rest)

silent_both : (os ps : List Observation) → AllSilent os → AllSilent ps → AllSilent (os ++ ps)
silent_both [] ps a b = b
silent_both (o ∷ os) ps a b = record { one = a.one; rest = silent_both os ps a.rest b }

silent_fate : (k : ℕ) (e f : Fate) → AllSilent (ev.fate_seen k e f)
silent_fate k fates.Pending fates.Pending = tt
silent_fate k fates.Pending fates.Hard = record { one = tt; rest = tt }
silent_fate k fates.Pending (fates.Gone c) = record { one = tt; rest = tt }
silent_fate k fates.Hard f = tt
silent_fate k (fates.Gone c) f = tt

silent_fates : (k : ℕ) (es fs : List LogEntry) → AllSilent (ev.fates_from k es fs)
unfolding ev.fates_from
silent_fates k [] fs = tt
silent_fates k (e ∷ es) [] = tt
silent_fates k (e ∷ es) (f ∷ fs) = silent_both (ev.fate_seen k e.fate f.fate) (ev.fates_from (k + 1) es fs) (silent_fate k e.fate f.fate) (silent_fates (k + 1) es fs)

server_one : (s : ServerId) (o : Output) (sc : WorldTurn) → AllSilent sc.seen → AllSilent (ev.server_says sc s o).seen
unfolding ev.server_says ev.sends ev.server_notes ev.cuts
server_one s (outputs.Send m) sc h = silent_both sc.seen (_ ∷ []) h (record { one = tt; rest = tt })
server_one s (outputs.Note x) sc h = note x
  where
    note : (x : Note) → AllSilent (ev.server_notes sc s x).seen
    note (notes.Suspected c t) = silent_both sc.seen (_ ∷ []) h (record { one = tt; rest = tt })
    note (notes.Stolen c l) = silent_both sc.seen (_ ∷ []) h (record { one = tt; rest = tt })
    note (notes.CutDone f p) = silent_both sc.seen (_ ∷ []) h (record { one = tt; rest = tt })
    note x = h
server_one s o sc h = h

server_all : (s : ServerId) (os : List Output) (sc : WorldTurn) → AllSilent sc.seen → AllSilent (ev.server_says_all s os sc).seen
unfolding ev.server_says_all
server_all s [] sc h = h
server_all s (o ∷ os) sc h = server_all s os (ev.server_says sc s o) (server_one s o sc h)

pub others_silent : (w : World) (e : Event) → taken w e ≡ None → AllSilent (happens w e).seen
others_silent = others AllSilent tt server_all silent_fates
