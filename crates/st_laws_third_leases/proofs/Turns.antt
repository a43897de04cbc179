-- A rule of the third form at each server in turn: what it does to each association, and which messages it sends.
use Rattle.st_lemmas.proofs.Words
use Words.{◌≡◌, ℕ, suc, ◌+◌, ◌⊎◌, List, [], ◌∷◌, ◌++◌, length, refl, sym, ap, ◌∙◌, subst, inl, inr, arith, append-nil, append_assoc, length-append}
use Words.{ClientId, Config, Message}
use Words.ClientState.{Association}
use Words.Lengths.{nothing_after}
use Words.Lists.{Has}
use Rattle.st_laws_steps.specs.Lives.Lives.{Pairwise}
use Rattle.st_third.specs.declared.limits.Limits.{Limits}
use Rattle.st_third.specs.declared.output.ThirdOutput.{ThirdOutput}
use Rattle.st_third.specs.State.{Beside, ThirdClientTurn, ThirdTurn, all_said, at_each, at_these, enter, leave}
use Rattle.st_laws_third.specs.Pairs.{IsPaired}
use Rattle.st_laws_third_leases.proofs.Idle.{Sent}

-- What a rule does at one server, given what was sent by then; and which messages the association accounts for.
pub record One (R : (Message → Type 0) → Association → Association → Type 0) (Q : Association → Message → Type 0) (t u : ThirdTurn) : Type 0 where
  pub does : R (Sent (all_said u)) t.plain.here u.plain.here
  pub sends : (x : Message) → Sent (all_said u) x → Sent (all_said t) x ⊎ Q u.plain.here x

module _ (m : Limits) (k : Config) (id : ClientId) (rule : ThirdTurn → ThirdTurn) (P : Association → Type 0)
    (R : (Message → Type 0) → Association → Association → Type 0) (Q : Association → Message → Type 0)
    (keep : (t : ThirdTurn) (a b : Association) → R (Sent (all_said t)) a b → R (Sent (all_said (rule t))) a b)
    (one : (t : ThirdTurn) → t.plain.id ≡ id → t.plain.config ≡ k → P t.plain.here → One R Q t (rule t)) where
  -- entering says nothing
  entered : (t : ThirdClientTurn) (a : Association) (b : Beside) → all_said (enter m t a b) ≡ t.out
  entered t a b = append-nil t.out

  these_keep : (as_ : List Association) (bs : List Beside) (t : ThirdClientTurn) (x y : Association) → R (Sent t.out) x y →
      R (Sent (at_these m rule as_ bs t).out) x y
  unfolding at_these
  these_keep [] bs t x y r = r
  these_keep (a ∷ as_) [] t x y r = r
  these_keep (a ∷ as_) (b ∷ bs) t x y r =
      these_keep as_ bs (leave t (rule (enter m t a b))) x y
      (keep (enter m t a b) x y (subst (λ (os : List ThirdOutput). R (Sent os) x y) (sym (entered t a b)) r))

  record These (as_ : List Association) (t u : ThirdClientTurn) : Type 0 where
    id_is : u.client.plain.id ≡ t.client.plain.id
    config : u.client.plain.config ≡ t.client.plain.config
    left : List Association
    is : u.client.plain.associations ≡ t.client.plain.associations ++ left
    whole : length left ≡ length as_
    besides : length u.client.beside.besides ≡ length t.client.beside.besides + length left
    pairs : Pairwise (R (Sent u.out)) as_ left
    sends : (x : Message) → Sent u.out x → Sent t.out x ⊎ ((b : Association) × Has b left × Q b x)

  these : (as_ : List Association) (bs : List Beside) (t : ThirdClientTurn) → t.client.plain.id ≡ id → t.client.plain.config ≡ k →
      length bs ≡ length as_ → ((a : Association) → Has a as_ → P a) → These as_ t (at_these m rule as_ bs t)
  unfolding at_these
  these [] bs t i c e f =
      record {
        id_is = refl;
        config = refl;
        left = [];
        is = nothing_after t.client.plain.associations;
        whole = refl;
        besides = omega arith;
        pairs = tt;
        sends = λ x h. inl h;
      }
  these (a ∷ as_) [] t i c e f = absurd (nothing (length as_) e)
    where
      nothing : (n : ℕ) → 0 ≡ suc n → ⊥
      nothing n e = cc
  these (a ∷ as_) (b ∷ bs) t i c e f =
      made (these as_ bs (leave t (rule (enter m t a b))) i c (omega (arith, e)) (λ x h. f x (inr h)))
    where
      r : ThirdTurn
      r = rule (enter m t a b)

      u : ThirdClientTurn
      u = at_these m rule as_ bs (leave t r)

      o : One R Q (enter m t a b) r
      o = one (enter m t a b) i c (f a (inl refl))

      made : These as_ (leave t r) u → These (a ∷ as_) t u
      made w =
          record {
            id_is = w.id_is;
            config = w.config;
            left = r.plain.here ∷ w.left;
            is = w.is ∙ append_assoc t.client.plain.associations (r.plain.here ∷ []) w.left;
            whole = ap suc w.whole;
            besides = let y = w.besides in let n = length-append t.client.beside.besides (r.beside ∷ []) in omega (arith, y, n);
            pairs = record { one = these_keep as_ bs (leave t r) a r.plain.here o.does; rest = w.pairs };
            sends = λ x h. later x (w.sends x h);
          }
        where
          by : (x : Message) → Sent (all_said (enter m t a b)) x ⊎ Q r.plain.here x →
              Sent t.out x ⊎ ((d : Association) × Has d (r.plain.here ∷ w.left) × Q d x)
          by x (inl j) = inl (subst (λ (os : List ThirdOutput). Sent os x) (entered t a b) j)
          by x (inr q) = inr (r.plain.here, inl refl, q)

          later : (x : Message) → Sent (leave t r).out x ⊎ ((d : Association) × Has d w.left × Q d x) →
              Sent t.out x ⊎ ((d : Association) × Has d (r.plain.here ∷ w.left) × Q d x)
          later x (inr (d, h, q)) = inr (d, inr h, q)
          later x (inl h) = by x (o.sends x h)

  -- all associations afterwards
  pub record Each (t u : ThirdClientTurn) : Type 0 where
    pub id_is : u.client.plain.id ≡ t.client.plain.id
    pub config : u.client.plain.config ≡ t.client.plain.config
    pub paired : IsPaired u.client
    pub pairs : Pairwise (R (Sent u.out)) t.client.plain.associations u.client.plain.associations
    pub sends : (x : Message) → Sent u.out x → Sent t.out x ⊎ ((b : Association) × Has b u.client.plain.associations × Q b x)

  pub each : (t : ThirdClientTurn) → t.client.plain.id ≡ id → t.client.plain.config ≡ k → IsPaired t.client →
      ((a : Association) → Has a t.client.plain.associations → P a) → Each t (at_each m rule t)
  unfolding at_each
  each t i c e f =
      let w = these t.client.plain.associations t.client.beside.besides _ i c e f in
      record {
        id_is = w.id_is;
        config = w.config;
        paired = let y = w.besides in let z = ap length w.is in omega (arith, y, z);
        pairs = subst (Pairwise (R (Sent (at_each m rule t).out)) t.client.plain.associations) (sym w.is) w.pairs;
        sends = λ x h. by x (w.sends x h);
      }
    where
      w : These t.client.plain.associations (record t { client = Rattle.st_third.specs.State.with_none t.client }) (at_each m rule t)
      w = these t.client.plain.associations t.client.beside.besides _ i c e f

      by : (x : Message) → Sent t.out x ⊎ ((b : Association) × Has b w.left × Q b x) →
          Sent t.out x ⊎ ((b : Association) × Has b (at_each m rule t).client.plain.associations × Q b x)
      by x (inl h) = inl h
      by x (inr (b, h, q)) = inr (b, subst (Has b) (sym w.is) h, q)
