-- A client after its losses: an association with a session is as it was, and its lease lasts.
use Rattle.st_lemmas.proofs.Words
use Words.{◌≡◌, Bool, true, false, List, [], ◌∷◌, Option, Some, None, refl, sym, ap, ◌∙◌, subst, arith, leb-false, Config, ClientId, Stamp, LeaseLife}
use Words.Client as cl
use Words.ClientLease as lease
use Words.ClientState.{Association, ClientSession, ClientState, Turn, client_turn}
use Words.Lists.{Has}
use Rattle.st_laws_refine.specs.Client.Invariants.{Lasts}
use Rattle.st_laws_steps.specs.Lives.Lives.{Pairwise}
use Rattle.st_laws_steps.specs.Client.Losses.{Fit, IsLost, Loses, Lasts as StaysOn, is_ended}
use Rattle.st_laws_pages.proofs.Flush.Flushing.{pair_of}
use Rattle.st_laws_steps.proofs.Client.Losing.{lose_is}
use Rattle.st_laws_steps.proofs.Client.Stepping.{LostOrNot, each, losses_left}

-- an association whose lease is over has no session after the losses
abbrev Empties : Config → Stamp → Association → Association → Type 0
Empties k now a b = is_ended k now a.session ≡ true → b.session ≡ None

lose_empties : (k : Config) (now : Stamp) (t u : Turn) → t.config ≡ k → Loses now t u → Empties k now t.here u.here
lose_empties k now t _ e (StaysOn n) = λ h. absurd (no (sym n ∙ ap (λ m. is_ended m now t.here.session) e ∙ h))
  where
    no : ◌≡◌ {A = Bool} false true → ⊥
    no z = cc
lose_empties k now t _ e (IsLost s q o v ch) = λ h. refl

abbrev NoneLost : Association → List LeaseLife
NoneLost a = []

both_pairs : (R S : Association → Association → Type 0) (xs ys : List Association) → Pairwise R xs ys → Pairwise S xs ys → Pairwise (λ a b. R a b × S a b) xs ys
both_pairs R S [] [] p q = record {}
both_pairs R S (x ∷ xs) (y ∷ ys) p q = record { one = (p.one, q.one); rest = both_pairs R S xs ys p.rest q.rest }
both_pairs R S [] (y ∷ ys) p q = absurd p
both_pairs R S (x ∷ xs) [] p q = absurd p

all_emptied : (s : ClientState) (now : Stamp) → ((a : Association) → Has a s.associations → Fit a) → Pairwise (Empties s.config now) s.associations (cl.losses (client_turn s []) now).state.associations
unfolding cl.losses
all_emptied s now fit = (each Fit (Empties s.config now) NoneLost (λ os. []) (cl.lose now) (client_turn s []) (λ u q f. record { one = lose_empties s.config now u (cl.lose now u) q (lose_is now u); said = refl }) fit).pairs

-- it was there before, and its lease lasts
pub record Behind (s : ClientState) (now : Stamp) (b : Association) : Type 0 where
  pub was : Has b s.associations
  pub lasts : Lasts s.config.lease now.0 b.session

pub lasting : (k : Config) (now : Stamp) (o : Option ClientSession) → is_ended k now o ≡ false → Lasts k.lease now.0 o
lasting k now None e = record {}
lasting k now (Some s) e = let z = leb-false (lease.end_of k s.lease).0 now.0 e in omega (arith, z)

pub behind : (c : ClientId) (s : ClientState) (now : Stamp) → ((a : Association) → Has a s.associations → Fit a) → (b : Association) → Has b (cl.losses (client_turn s []) now).state.associations → (x : ClientSession) → b.session ≡ Some x → Behind s now b
behind c s now fit b i x e = go (pair_of (λ a d. LostOrNot s.config now a d × Empties s.config now a d) s.associations left (both_pairs (LostOrNot s.config now) (Empties s.config now) s.associations left (losses_left c s now (client_turn s []) refl fit).pairs (all_emptied s now fit)) b i)
  where
    left : List Association
    left = (cl.losses (client_turn s []) now).state.associations

    none_some : ◌≡◌ {A = Option ClientSession} None (Some x) → ⊥
    none_some z = cc

    go : (a : Association) × Has a s.associations × (LostOrNot s.config now a b × Empties s.config now a b) → Behind s now b
    go (a, j, z) = by (is_ended s.config now a.session) refl
      where
        by : (o : Bool) → is_ended s.config now a.session ≡ o → Behind s now b
        by false q = record { was = subst (λ (y : Association). Has y s.associations) (z.0.lasts q) j; lasts = lasting s.config now b.session z.0.going }
        by true q = absurd (none_some (sym (z.1 q) ∙ e))
