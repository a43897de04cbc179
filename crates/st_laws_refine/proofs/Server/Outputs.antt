-- What a server's step puts out: each message is from this server, and thefts are those of timers that are over.
use Rattle.st_lemmas.proofs.Words
use Words.{◌≡◌, ℕ, ◌+◌, List, [], ◌∷◌, ◌++◌, sym, ap, subst, inl, inr, ClientId, Life, Stamp, Output, ServerInput}
use Words.notes
use Words.outputs
use Words.Authority as authority
use Words.Server.{ServerState, ServerTurn, reply, tell, steal_from, suspect_client, keep_and_reply, server_step}
use Words.Lists.{Has}
use Rattle.st_base.specs.declared.config.Config as base
use Rattle.st_laws_refine.specs.Server.Edits.{WishInput, Edit, TakesTimers, Steals, Suspects, Begins, DropsWaits, Keeps, Reasserts, Sees, Acquires, Releases}
use Rattle.st_laws_refine.specs.Server.Edits.{DropsFile, Grants, Demands, NamesChange, ExtentsChange, Cuts, Replies, Repeats, Refuses, TellsGrant, TellsDemand}
use Rattle.st_laws_refine.proofs.Server.Walk.{walk}

-- a message is from this server, and a theft is one of these
abbrev pub OutOk : ℕ → (ClientId → Life → Type 0) → Output → Type 0
OutOk s T (outputs.Send m) = m.header.from ≡ 32768 + s
OutOk s T (outputs.Note (notes.Stolen c life)) = T c life
OutOk s T (outputs.Note n) = Unit {0}
OutOk s T o = Unit {0}

abbrev pub AllOk : ℕ → (ClientId → Life → Type 0) → List Output → Type 0
AllOk s T [] = Unit {0}
AllOk s T (o ∷ os) = record { one : OutOk s T o; rest : AllOk s T os }

pub all_append : (s : ℕ) (T : ClientId → Life → Type 0) (os : List Output) (o : Output) → AllOk s T os → OutOk s T o → AllOk s T (os ++ o ∷ [])
all_append s T [] o a e = record { one = e; rest = tt }
all_append s T (x ∷ os) o a e = record { one = a.one; rest = all_append s T os o a.rest e }

pub all_has : (s : ℕ) (T : ClientId → Life → Type 0) (os : List Output) (o : Output) → AllOk s T os → Has o os → OutOk s T o
all_has s T [] o a h = elim h [ ]
all_has s T (x ∷ os) o a (inl e) = subst (OutOk s T) (sym e) a.one
all_has s T (x ∷ os) o a (inr i) = all_has s T os o a.rest i

-- the server's number and settings stay, and all that was put out is as it must be
pub record Outs (s : ℕ) (kb : base.Config) (T : ClientId → Life → Type 0) (t : ServerTurn) : Type 0 where
  pub id : t.state.id.0 ≡ s
  pub config : t.state.config ≡ kb
  pub all : AllOk s T t.out

module _ (s : ℕ) (kb : base.Config) (T : ClientId → Life → Type 0) where
  pub outs_edit : (n : ServerState) (now : Stamp) (i : ServerInput) → ((c : ClientId) → Has c (authority.over n.authority now) → (life : Life) → T c life) → (t u : ServerTurn) → Edit n now i t u → Outs s kb T t → Outs s kb T u
  unfolding steal_from suspect_client keep_and_reply reply tell
  outs_edit n now i h t u (TakesTimers _ first) o = record { id = o.id; config = o.config; all = o.all }
  outs_edit n now i h t u (Steals _ c x j e) o = record { id = o.id; config = o.config; all = all_append s T t.out _ o.all (h c j x.life) }
  outs_edit n now i h t u (Suspects _ c q f z) o = record { id = o.id; config = o.config; all = all_append s T t.out _ o.all tt }
  outs_edit n now i h t u (Begins _ c life) o = record { id = o.id; config = o.config; all = o.all }
  outs_edit n now i h t u (DropsWaits _ m s is b e lower) o = record { id = o.id; config = o.config; all = o.all }
  outs_edit n now i h t u (Keeps _ c number b e) o = record { id = o.id; config = o.config; all = o.all }
  outs_edit n now i h t u (Reasserts _ m rows is w g f) o = record { id = o.id; config = o.config; all = o.all }
  outs_edit n now i h t u (Sees _ m ino g is fi b) o = record { id = o.id; config = o.config; all = o.all }
  outs_edit n now i h t u (Acquires _ m ino mode l b y is fi eb es el ok k a) o = record { id = o.id; config = o.config; all = all_append s T t.out _ o.all (ap (λ n. 32768 + n) o.id) }
  outs_edit n now i h t u (Releases _ m ino g to r is fi b er eu) o = record { id = o.id; config = o.config; all = o.all }
  outs_edit n now i h t u (DropsFile _ m dir name g ino is b e) o = record { id = o.id; config = o.config; all = o.all }
  outs_edit n now i h t u (Grants _ w off x first f) o = record { id = o.id; config = o.config; all = o.all }
  outs_edit n now i h t u (Demands _ r x to er ed) o = record { id = o.id; config = o.config; all = o.all }
  outs_edit n now i h t u (NamesChange _ v) o = record { id = o.id; config = o.config; all = o.all }
  outs_edit n now i h t u (ExtentsChange _ v) o = record { id = o.id; config = o.config; all = o.all }
  outs_edit n now i h t u (Cuts _ f q) o = record { id = o.id; config = o.config; all = all_append s T t.out _ o.all tt }
  outs_edit n now i h t u (Replies _ m b is ok) o = record { id = o.id; config = o.config; all = all_append s T t.out _ o.all (ap (λ n. 32768 + n) o.id) }
  outs_edit n now i h t u (Repeats _ m x last b is r f e g) o = record { id = o.id; config = o.config; all = all_append s T t.out _ o.all (ap (λ n. 32768 + n) o.id) }
  outs_edit n now i h t u (Refuses _ m rows r is f q e) o = record { id = o.id; config = o.config; all = all_append s T t.out _ o.all (ap (λ n. 32768 + n) o.id) }
  outs_edit n now i h t u (TellsGrant _ c life ino g mode) o = record { id = o.id; config = o.config; all = all_append s T t.out _ o.all (ap (λ n. 32768 + n) o.id) }
  outs_edit n now i h t u (TellsDemand _ c life ino g mode) o = record { id = o.id; config = o.config; all = all_append s T t.out _ o.all (ap (λ n. 32768 + n) o.id) }

  -- the whole step
  pub step_outs : (n : ServerState) (now : Stamp) (i : ServerInput) → WishInput i → n.id.0 ≡ s → n.config ≡ kb → ((c : ClientId) → Has c (authority.over n.authority now) → (life : Life) → T c life) → Outs s kb T (server_step n now i)
  step_outs n now i w e f h = walk n now i (Outs s kb T) (outs_edit n now i h) w (record { id = e; config = f; all = tt })
