-- What is observed of a client's outputs in the world: its reads and its syncs are answered by the log at them.
use Rattle.st_lemmas.proofs.Words
use Words.{◌≡◌, ℕ, ◌+◌, true, List, [], ◌∷◌, ◌++◌, Option, Some, None, refl, sym, ap, ◌∙◌, subst, append_assoc, length, list_all, ClientId, ServerId, Life, Ask}
use Words.{AppAnswer, Note, Output, LogEntry, Observation, append-nil}
use Words.asks
use Words.answers
use Words.notes
use Words.outputs
use Words.causes
use Words.seen
use Words.ClientState.{ClientState}
use Words.World.{World, WorldClient, site_of}
use Words.Events as ev
use Words.Events.{WorldTurn, client_says, client_says_all, client_notes, present_life}
use Words.FlatLog as log
use Words.Lines.{AtEach, log_behind, log_told}
use Words.Safety as safety
use Rattle.st_laws_refine.specs.Client.World.{logged_one}
use Rattle.st_laws_refine.proofs.Client.World.{told_one, lives_same}
use Rattle.st_laws_reads.specs.Copies.Copies.{RightOne, RightBehind, Noted, HardRight}
use Rattle.st_laws_reads.specs.Copies.Law.{IsWritten, AllWritten, StepsAnswerRight}
use Rattle.st_laws_pages.proofs.Causes.HardSeen.{at_both, told_both}

-- reads and syncs, at an observation
abbrev Fact : List safety.Step → safety.Step → List LogEntry → Observation → Type 0
Fact past x es o = safety.IsLast past x es o × safety.IsHardAt past x es o

-- what is observed of outputs: each answer of a read has the bytes of the log at it
pub record SeenRight (past : List safety.Step) (x : safety.Step) (old : List Observation) (sc : WorldTurn) (new : WorldTurn) : Type 0 where
  pub more : List Observation
  pub is : new.seen ≡ old ++ more
  pub right : AtEach (Fact past x) x.after.world sc.world.log more
  pub log : log_told x.after.world sc.world.log more ≡ new.world.log

seen_one : (past : List safety.Step) (x : safety.Step) (c : ClientId) (before : ClientState) (last : Option Output) (o : Output) (sc : WorldTurn) → ◌≡◌ {A = ServerId → Life} (present_life x.after.world c) (present_life sc.world c) →
    RightOne (safety.ask_of past x c) c (present_life sc.world c) last sc.world.log o → SeenRight past x sc.seen sc (client_says sc c before o)
unfolding client_says ev.sends ev.submits ev.answers_with client_notes ev.accepts ev.patches ev.loses AtEach log_behind log_told
seen_one past x c before last (outputs.Send m) sc l r = record { more = _ ∷ []; is = refl; right = ((tt, refl), tt); log = refl }
seen_one past x c before last (outputs.Answer op a) sc l r = record { more = seen.Answered c op a ∷ []; is = refl; right = ((answer a r, hard a r), tt); log = refl }
  where
    answer : (a : AppAnswer) → RightOne (safety.ask_of past x c) c (present_life sc.world c) last sc.world.log (outputs.Answer op a) → safety.IsLastAnswer past x c op sc.world.log a
    answer (answers.Read bytes) r = r
    answer a r = tt

    sync : (a : Option Ask) → HardRight c (present_life sc.world c) sc.world.log a → safety.all_hard x.after.world c sc.world.log a ≡ true
    sync (Some (asks.Sync f)) r = ap (λ (v : ServerId → Life). list_all (safety.is_hard_of c (v f.server) f) sc.world.log) l ∙ r
    sync a r = elim r [ ]

    hard : (a : AppAnswer) → RightOne (safety.ask_of past x c) c (present_life sc.world c) last sc.world.log (outputs.Answer op a) → safety.answer_is_hard past x c op sc.world.log a ≡ true
    hard answers.Hard r = sync (safety.ask_of past x c op) r
    hard a r = refl
seen_one past x c before last (outputs.Submit n at what) sc l r = go (site_of sc.world c)
  where
    go : (o : Option WorldClient) → SeenRight past x sc.seen sc (ev.submits sc c o n at what)
    go None = record { more = []; is = sym (append-nil sc.seen); right = tt; log = refl }
    go (Some s) = record { more = _ ∷ []; is = refl; right = ((tt, refl), tt); log = refl }
seen_one past x c before last (outputs.Note n) sc l r = note n
  where
    note : (n : Note) → SeenRight past x sc.seen sc (client_notes sc c before n)
    note (notes.Leased s end) = record { more = seen.Leased c s end ∷ []; is = refl; right = ((tt, refl), tt); log = refl }
    note (notes.Lost s life) = record { more = seen.Lost c s life ∷ []; is = refl; right = ((tt, refl), tt); log = refl }
    note (notes.Accepted f p bytes) = record { more = seen.Wrote (length sc.world.log + 1) c f p bytes ∷ []; is = refl; right = ((tt, refl), tt); log = ap (λ (v : ServerId → Life). log.accept sc.world.log c (v f.server) f p bytes) l }
    note (notes.Patched f p at bytes) = record { more = seen.Patched (length sc.world.log + 1) c f p at bytes ∷ []; is = refl; right = ((tt, refl), tt); log = ap (λ (v : ServerId → Life). log.patch sc.world.log c (v f.server) f p at bytes) l }
    note n = record { more = []; is = sym (append-nil sc.seen); right = tt; log = refl }

-- reads return the last write, in one step of a client: from what its outputs are
pub seen_all : (past : List safety.Step) (x : safety.Step) (c : ClientId) (before : ClientState) (last : Option Output) (os : List Output) (sc : WorldTurn) → ◌≡◌ {A = ServerId → Life} (present_life x.after.world c) (present_life sc.world c) →
    RightBehind (safety.ask_of past x c) c (present_life sc.world c) last sc.world.log os → SeenRight past x sc.seen sc (client_says_all c before os sc)
unfolding client_says_all AtEach log_told
seen_all past x c before last [] sc l r = record { more = []; is = sym (append-nil sc.seen); right = nothing; log = refl }
  where
    nothing : AtEach (Fact past x) x.after.world sc.world.log []
    nothing = tt
seen_all past x c before last (o ∷ os) sc l r =
    let u : WorldTurn = client_says sc c before o in
    let t = told_one c before o sc in
    let p = seen_one past x c before last o sc l r.one in
    let lives = lives_same c sc.world u.world t.clients in
    let q = seen_all past x c before (Some o) os u (l ∙ sym lives) (subst (λ v. RightBehind (safety.ask_of past x c) c v (Some o) u.world.log os) (sym lives) (subst (λ y. RightBehind (safety.ask_of past x c) c (present_life sc.world c) (Some o) y os) (sym t.log) r.rest)) in
    record {
      more = p.more ++ q.more;
      is = q.is ∙ ap (λ y. y ++ q.more) p.is ∙ append_assoc sc.seen p.more q.more;
      right = at_both (Fact past x) x.after.world sc.world.log p.more q.more p.right (subst (λ y. AtEach (Fact past x) x.after.world y q.more) (sym p.log) q.right);
      log = told_both x.after.world sc.world.log p.more q.more ∙ ap (λ y. log_told x.after.world y q.more) p.log ∙ q.log;
    }

-- the two facts apart
first : (past : List safety.Step) (x : safety.Step) (w : World) (es : List LogEntry) (os : List Observation) → AtEach (Fact past x) w es os → AtEach (safety.IsLast past x) w es os
unfolding AtEach
first past x w es [] r = tt
first past x w es (o ∷ os) r = (r.0.0, first past x w (log_behind w es o) os r.1)

second : (past : List safety.Step) (x : safety.Step) (w : World) (es : List LogEntry) (os : List Observation) → AtEach (Fact past x) w es os → AtEach (safety.IsHardAt past x) w es os
unfolding AtEach
second past x w es [] r = tt
second past x w es (o ∷ os) r = (r.0.1, second past x w (log_behind w es o) os r.1)

-- the line of a change comes after its note
abbrev LineOf : ClientId → Option Output → Option Observation → Type 0
LineOf c (Some (outputs.Note (notes.Accepted f p bytes))) line = (i : ℕ) × (line ≡ Some (seen.Wrote i c f p bytes))
LineOf c (Some (outputs.Note (notes.Patched f p at bytes))) line = (i : ℕ) × (line ≡ Some (seen.Patched i c f p at bytes))
LineOf c last line = Unit {0}

-- the line that a note has, as a function of the note
line_of : ℕ → ClientId → Note → Observation
line_of i c (notes.Accepted f p bytes) = seen.Wrote i c f p bytes
line_of i c (notes.Patched f p at bytes) = seen.Patched i c f p at bytes
line_of i c n = seen.Dropped i causes.Crash

noted_line : (c : ClientId) (asked : Option Ask) (last : Option Output) (line : Option Observation) → Noted asked last → LineOf c last line → safety.IsLoggedAfter c asked line
unfolding line_of
noted_line c (Some (asks.Write f p bytes)) (Some (outputs.Note (notes.Accepted g q old))) line n l = subst (λ o. safety.IsLoggedAfter c (Some (asks.Write f p bytes)) o) (sym l.1) (ap (line_of l.0 c) n)
noted_line c (Some (asks.Patch f p at bytes)) (Some (outputs.Note (notes.Patched g q place old))) line n l = subst (λ o. safety.IsLoggedAfter c (Some (asks.Patch f p at bytes)) o) (sym l.1) (ap (line_of l.0 c) n)
noted_line c asked last line n l = elim n [ ]

record WrittenSeen (past : List safety.Step) (x : safety.Step) (line : Option Observation) (old : List Observation) (new : List Observation) : Type 0 where
  pub more : List Observation
  pub is : new ≡ old ++ more
  pub right : AllWritten past x line more

-- one line, and those after it
line_then : (past : List safety.Step) (x : safety.Step) (line : Option Observation) (old : List Observation) (o : Observation) (new : List Observation) → IsWritten past x line o → WrittenSeen past x (Some o) (old ++ o ∷ []) new → WrittenSeen past x line old new
line_then past x line old o new w r = record { more = o ∷ r.more; is = r.is ∙ append_assoc old (o ∷ []) r.more; right = record { one = w; rest = r.right } }

written_all : (past : List safety.Step) (x : safety.Step) (c : ClientId) (before : ClientState) (lives : ServerId → Life) (last : Option Output) (line : Option Observation) (os : List Output) (es : List LogEntry) (sc : WorldTurn) → LineOf c last line →
    RightBehind (safety.ask_of past x c) c lives last es os → WrittenSeen past x line sc.seen (client_says_all c before os sc).seen
unfolding client_says_all client_says ev.sends ev.submits ev.answers_with client_notes ev.accepts ev.patches ev.loses
written_all past x c before lives last line [] es sc l r = record { more = []; is = sym (append-nil sc.seen); right = record {} }
written_all past x c before lives last line (outputs.Send m ∷ os) es sc l r =
    line_then past x line sc.seen _ _ (record {}) (written_all past x c before lives (Some (outputs.Send m)) _ os es (client_says sc c before (outputs.Send m)) (record {}) r.rest)
written_all past x c before lives last line (outputs.Answer op a ∷ os) es sc l r =
    line_then past x line sc.seen (seen.Answered c op a) _ (answered a r.one) (written_all past x c before lives (Some (outputs.Answer op a)) _ os es (client_says sc c before (outputs.Answer op a)) (record {}) r.rest)
  where
    answered : (a : AppAnswer) → RightOne (safety.ask_of past x c) c lives last es (outputs.Answer op a) → IsWritten past x line (seen.Answered c op a)
    answered answers.Written n = noted_line c (safety.ask_of past x c op) last line n l
    answered a n = record {}
written_all past x c before lives last line (outputs.Submit n at what ∷ os) es sc l r =
    go (site_of sc.world c) (λ line sc. written_all past x c before lives (Some (outputs.Submit n at what)) line os es sc (record {}) r.rest)
  where
    go : (o : Option WorldClient) → ((line : Option Observation) (sc : WorldTurn) → WrittenSeen past x line sc.seen (client_says_all c before os sc).seen) → WrittenSeen past x line sc.seen (client_says_all c before os (ev.submits sc c o n at what)).seen
    go None f = f line sc
    go (Some site) f = line_then past x line sc.seen _ _ (record {}) (f _ (ev.submits sc c (Some site) n at what))
written_all past x c before lives last line (outputs.Note n ∷ os) es sc l r =
    note n (λ line es sc l r. written_all past x c before lives (Some (outputs.Note n)) line os es sc l r) r.rest
  where
    note : (n : Note) →
        ((line : Option Observation) (es : List LogEntry) (sc : WorldTurn) → LineOf c (Some (outputs.Note n)) line → RightBehind (safety.ask_of past x c) c lives (Some (outputs.Note n)) es os → WrittenSeen past x line sc.seen (client_says_all c before os sc).seen) →
        RightBehind (safety.ask_of past x c) c lives (Some (outputs.Note n)) (logged_one c lives (outputs.Note n) es) os → WrittenSeen past x line sc.seen (client_says_all c before os (client_notes sc c before n)).seen
    note (notes.Leased s end) f r = line_then past x line sc.seen _ _ (record {}) (f _ _ (client_notes sc c before (notes.Leased s end)) (record {}) r)
    note (notes.Lost s life) f r = line_then past x line sc.seen _ _ (record {}) (f _ _ (client_notes sc c before (notes.Lost s life)) (record {}) r)
    note (notes.Accepted g p bytes) f r = line_then past x line sc.seen _ _ (record {}) (f _ _ (client_notes sc c before (notes.Accepted g p bytes)) (_, refl) r)
    note (notes.Patched g p at bytes) f r = line_then past x line sc.seen _ _ (record {}) (f _ _ (client_notes sc c before (notes.Patched g p at bytes)) (_, refl) r)
    note n f r = f line _ sc (record {}) r

pub steps_answer_right : StepsAnswerRight
steps_answer_right past x c before os v l r =
    let q = seen_all past x c before None os (ev.quiet v) l r in
    let z = written_all past x c before (present_life v c) None None os v.log (ev.quiet v) (record {}) r in
    record {
      reads = subst (λ ys. AtEach (safety.IsLast past x) x.after.world v.log ys) (sym q.is) (first past x x.after.world v.log q.more q.right);
      syncs = subst (λ ys. AtEach (safety.IsHardAt past x) x.after.world v.log ys) (sym q.is) (second past x x.after.world v.log q.more q.right);
      written = subst (λ ys. AllWritten past x None ys) (sym z.is) z.right;
    }
