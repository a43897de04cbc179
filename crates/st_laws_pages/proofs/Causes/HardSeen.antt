-- What is observed of a client's outputs: a sync is answered hard only if its file is, in the log at that line.
use Rattle.st_lemmas.proofs.Words
use Words.{◌≡◌, ◌+◌, true, List, [], ◌∷◌, ◌++◌, Option, Some, None, refl, sym, ap, ◌∙◌, subst, append_assoc, length, list_all, ClientId, Life, ServerId}
use Words.{AppAnswer, Note, Output, LogEntry, Observation, append-nil}
use Words.answers
use Words.notes
use Words.outputs
use Words.seen
use Words.ClientState.{ClientState}
use Words.Events as ev
use Words.Events.{WorldTurn, client_notes, client_says, client_says_all, present_life}
use Words.FlatLog as log
use Words.Lines.{AtEach, log_behind, log_told}
use Words.Safety as safety
use Words.Safety.{Step}
use Words.World.{World, WorldClient, numbered, site_of}
use Rattle.st_laws_pages.proofs.Lives.Turning.{says_one}
use Rattle.st_laws_pages.proofs.Asks.Says.{AllDull, Dull}
use Rattle.st_laws_pages.proofs.Causes.Hardly.{HardOne, HardSaid, Hards}

-- lines that answer nothing
dull_one : (past : List Step) (x : Step) (es : List LogEntry) (o : Observation) → Dull o → safety.IsHardAt past x es o
dull_one past x es (seen.Answered c op a) d = absurd d
dull_one past x es o d = refl

pub dull_hard : (past : List Step) (x : Step) (w : World) (es : List LogEntry) (os : List Observation) → AllDull os → AtEach (safety.IsHardAt past x) w es os
unfolding AtEach
dull_hard past x w es [] d = tt
dull_hard past x w es (o ∷ os) d = (dull_one past x es o d.one, dull_hard past x w (log_behind w es o) os d.rest)

-- What is observed of outputs, and the log that it tells.
record ToldHard (past : List Step) (x : Step) (sc new : WorldTurn) : Type 0 where
  more : List Observation
  is : new.seen ≡ sc.seen ++ more
  right : AtEach (safety.IsHardAt past x) x.after.world sc.world.log more
  told : log_told x.after.world sc.world.log more ≡ new.world.log

pub at_both : (fact : List LogEntry → Observation → Type 0) (w : World) (es : List LogEntry) (os ps : List Observation) → AtEach fact w es os →
    AtEach fact w (log_told w es os) ps → AtEach fact w es (os ++ ps)
unfolding AtEach log_told
at_both fact w es [] ps a b = b
at_both fact w es (o ∷ os) ps a b = (a.0, at_both fact w (log_behind w es o) os ps a.1 b)

pub told_both : (w : World) (es : List LogEntry) (os ps : List Observation) → log_told w es (os ++ ps) ≡ log_told w (log_told w es os) ps
unfolding log_told
told_both w es [] ps = refl
told_both w es (o ∷ os) ps = told_both w (log_behind w es o) os ps

one_told : (past : List Step) (x : Step) (c : ClientId) (lives : ServerId → Life) (before : ClientState) (o : Output) (sc : WorldTurn) → ((s : ServerId) → present_life x.after.world c s ≡ lives s) → ((s : ServerId) → present_life sc.world c s ≡ lives s) →
    HardOne (safety.ask_of past x c) c lives sc.world.log o → ToldHard past x sc (client_says sc c before o)
unfolding client_says ev.sends ev.submits ev.answers_with client_notes ev.accepts ev.patches ev.loses AtEach log_behind log_told
one_told past x c lives before (outputs.Send m) sc l n r = record { more = _ ∷ []; is = refl; right = (refl, tt); told = refl }
one_told past x c lives before (outputs.Answer op a) sc l n r = record { more = seen.Answered c op a ∷ []; is = refl; right = (hard a r, tt); told = refl }
  where
    sync : HardSaid (safety.ask_of past x c) c lives sc.world.log op → safety.all_hard x.after.world c sc.world.log (safety.ask_of past x c op) ≡ true
    sync z = ap (safety.all_hard x.after.world c sc.world.log) z.is ∙ ap (λ (v : Life). list_all (safety.is_hard_of c v z.file) sc.world.log) (l z.file.server) ∙ z.all

    hard : (a : AppAnswer) → HardOne (safety.ask_of past x c) c lives sc.world.log (outputs.Answer op a) → safety.answer_is_hard past x c op sc.world.log a ≡ true
    hard answers.Hard r = sync r
    hard a r = refl
one_told past x c lives before (outputs.Submit k at what) sc l n r = go (site_of sc.world c)
  where
    go : (o : Option WorldClient) → ToldHard past x sc (ev.submits sc c o k at what)
    go None = record { more = []; is = sym (append-nil sc.seen); right = tt; told = refl }
    go (Some s) = record { more = _ ∷ []; is = refl; right = (refl, tt); told = refl }
one_told past x c lives before (outputs.Note m) sc l n r = note m
  where
    same : (s : ServerId) → present_life x.after.world c s ≡ present_life sc.world c s
    same s = l s ∙ sym (n s)

    note : (m : Note) → ToldHard past x sc (client_notes sc c before m)
    note (notes.Leased s end) = record { more = seen.Leased c s end ∷ []; is = refl; right = (refl, tt); told = refl }
    note (notes.Lost s life) = record { more = seen.Lost c s life ∷ []; is = refl; right = (refl, tt); told = refl }
    note (notes.Accepted f p bytes) = record { more = seen.Wrote (length sc.world.log + 1) c f p bytes ∷ []; is = refl; right = (refl, tt); told = ap (λ (v : Life). log.accept sc.world.log c v f p bytes) (same f.server) }
    note (notes.Patched f p at bytes) = record { more = seen.Patched (length sc.world.log + 1) c f p at bytes ∷ []; is = refl; right = (refl, tt); told = ap (λ (v : Life). log.patch sc.world.log c v f p at bytes) (same f.server) }
    note m = record { more = []; is = sym (append-nil sc.seen); right = tt; told = refl }

all_told : (past : List Step) (x : Step) (c : ClientId) (lives : ServerId → Life) (before : ClientState) (os : List Output) (sc : WorldTurn) → ((s : ServerId) → present_life x.after.world c s ≡ lives s) → ((s : ServerId) → present_life sc.world c s ≡ lives s) →
    Hards (safety.ask_of past x c) c lives before sc os → ToldHard past x sc (client_says_all c before os sc)
unfolding client_says_all AtEach log_told
all_told past x c lives before [] sc l n r = record { more = []; is = sym (append-nil sc.seen); right = nothing; told = refl }
  where
    nothing : AtEach (safety.IsHardAt past x) x.after.world sc.world.log []
    nothing = tt
all_told past x c lives before (o ∷ os) sc l n r =
    let u : WorldTurn = client_says sc c before o in
    let p = one_told past x c lives before o sc l n r.one in
    let q = all_told past x c lives before os u l (λ s. ap (λ zs. ev.life_of_site s (numbered zs c.0)) (says_one c before o sc).clients ∙ n s) r.rest in
    record {
      more = p.more ++ q.more;
      is = q.is ∙ ap (λ y. y ++ q.more) p.is ∙ append_assoc sc.seen p.more q.more;
      right = at_both (safety.IsHardAt past x) x.after.world sc.world.log p.more q.more p.right (subst (λ y. AtEach (safety.IsHardAt past x) x.after.world y q.more) (sym p.told) q.right);
      told = told_both x.after.world sc.world.log p.more q.more ∙ ap (λ y. log_told x.after.world y q.more) p.told ∙ q.told;
    }

-- the lines of a client's step
pub says_hard : (past : List Step) (x : Step) (c : ClientId) (lives : ServerId → Life) (before : ClientState) (os : List Output) (v : World) → ((s : ServerId) → present_life x.after.world c s ≡ lives s) → ((s : ServerId) → present_life v c s ≡ lives s) →
    Hards (safety.ask_of past x c) c lives before (ev.quiet v) os → AtEach (safety.IsHardAt past x) x.after.world v.log (client_says_all c before os (ev.quiet v)).seen
says_hard past x c lives before os v l n r = let z = all_told past x c lives before os (ev.quiet v) l n r in subst (AtEach (safety.IsHardAt past x) x.after.world v.log) (sym z.is) z.right
