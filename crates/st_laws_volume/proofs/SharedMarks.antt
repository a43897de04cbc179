-- A later one of a client's open asks for one page, or for one file, has noticed what an earlier one
-- has: that the server was full, or that the file didn't exist.
use Rattle.std.proofs.Common.{◌≡◌, ◌≤◌, arith, ◌⊎◌, ℕ, ◌+◌, Bool, true, false, not, ◌&&◌, ◌||◌, ◌==◌, List, [], ◌∷◌, ◌++◌, length, map, Option, Some, None, refl, sym, ap, ◌∙◌, subst, inl, inr, if◌then◌else◌}
use Rattle.std.specs.Prelude.{cond, filter, find, is_some, nat_le, nat_lt, option_and_then, option_map}
use Rattle.std.specs.List.{list_any}
use Rattle.std.proofs.lemmas.Bool.{eqb-true}
use Rattle.st_base.specs.declared.ids.ClientId.{ClientId}
use Rattle.st_base.specs.declared.ids.FileId.{FileId}
use Rattle.st_base.specs.declared.ids.PageNo.{PageNo}
use Rattle.st_messages.specs.declared.answer.AppAnswer.{AppAnswer}
use Rattle.st_messages.specs.declared.ask.Ask.{Ask}
use Rattle.st_messages.specs.declared.ask.Ask.TheVariants as asks
use Rattle.st_rules.specs.Safety.{Step}
use Rattle.st_lemmas.specs.Lists.{Has}
use Rattle.st_lemmas.proofs.Lookups.{or_cases, or_left, or_right, some_is}
use Rattle.st_lemmas.proofs.Tables.{and_both, and_true, has_append, has_filter, has_filter_in, has_map, some_passes}
use Rattle.st_lemmas.proofs.Truth.{client_is}
use Rattle.st_laws_volume.specs.Options.{OnSome}
use Rattle.st_laws_volume.specs.Witness.{Witness, if_told, steps_of, volume_after}
use Rattle.st_laws_volume.proofs.AskSteps.{Leaves, after_keeps, effect_keeps}
use Rattle.st_laws_volume.proofs.Options.{on_all, on_else, on_if, on_map, on_more, on_then}
use Rattle.st_volume.specs.declared.step.Fate.{Fate}
use Rattle.st_volume.specs.declared.step.Fate.TheVariants as fates
use Rattle.st_volume.specs.declared.step.VolumeStep.{VolumeStep}
use Rattle.st_volume.specs.declared.step.VolumeStep.TheVariants as kinds
use Rattle.st_volume.specs.Pages.{Entry, is_any, is_at, is_cause, place_of, same_file}
use Rattle.st_volume.specs.Volume as volume
use Rattle.st_volume.specs.Volume.{Pending, Volume, acts, after_answer, answered, answers_so, arrived, closed, done, effect, ends, exists, failed, fails, file_of, fresh_volume, is_ask, is_before, is_full, is_full_for, is_of_client, is_read_of, is_sync_of, new_ask, notice, noticing, numbered, open_of, resulting, run, server_of, takes, with_changed, with_fate}

same_is : (f g : FileId) → same_file f g ≡ true → f ≡ g
same_is f g e =
    let z = and_true (f.server.0 == g.server.0) (f.ino == g.ino) e in
    ap (λ n. record { server = record { 0 = n }; ino = f.ino }) (eqb-true f.server.0 g.server.0 z.0)
    ∙ ap (λ n. record { server = g.server; ino = n }) (eqb-true f.ino g.ino z.1)

-- how many asks a client had
abbrev count : ClientId → List (ClientId × FileId) → ℕ
count c asked = length (filter (λ x. x.0.0 == c.0) asked)

-- A mark of open asks that is noticed by all of these at once, and that one that comes takes over.
module _ (c : ClientId) (which : Ask → Bool) (mark : Pending → Bool) (seen : Volume → Ask → Bool)
    (alike : (v : Volume) (a b : Ask) → which a ≡ true → which b ≡ true → seen v a ≡ seen v b)
    (noticed : (v : Volume) (a : Pending) → mark (noticing v a) ≡ (mark a || seen v a.ask))
    (resulted : (a b : Pending) (answer : AppAnswer) → mark (record b { result = Some answer }) ≡ mark b)
    (faulted : (a : Pending) (n : ℕ) → mark (record a { faults = n ∷ a.faults }) ≡ mark a)
    (taken : (v : Volume) (ask : Ask) (a : Pending) → which ask ≡ true → Has a v.pending → is_of_client c a ≡ true → which a.ask ≡ true → mark a ≡ true →
    mark (new_ask v c ask) ≡ true) where
  pub record Spread (xs : List Pending) (asked : List (ClientId × FileId)) : Type 0 where
    pub later :
        (a b : Pending) → Has a xs → Has b xs → is_of_client c a ≡ true → is_of_client c b ≡ true → which a.ask ≡ true → which b.ask ≡ true →
        a.op ≤ b.op → mark a ≡ true → mark b ≡ true
    pub low : (b : Pending) → Has b xs → is_of_client c b ≡ true → b.op ≤ count c asked

  abbrev pub AllSpread : Volume → Type 0
  AllSpread v = Spread v.pending v.asked

  -- the asks change, and all of these notice the same
  record Same (f : Pending → Pending) (n : Ask → Bool) : Type 0 where
    client : (a : Pending) → (f a).client ≡ a.client
    op : (a : Pending) → (f a).op ≡ a.op
    ask : (a : Pending) → (f a).ask ≡ a.ask
    mark_ : (a : Pending) → mark (f a) ≡ (mark a || n a.ask)

  mapped : (f : Pending → Pending) (n : Ask → Bool) → Same f n → ((a b : Ask) → which a ≡ true → which b ≡ true → n a ≡ n b) → (xs : List Pending)
      (asked : List (ClientId × FileId)) → Spread xs asked → Spread (map f xs) asked
  mapped f n s u xs asked h =
      record {
        later = λ a b i j p q v w l m. later a b (has_map f xs a i) (has_map f xs b j) p q v w l m;
        low = λ b j p. let z = has_map f xs b j in
            let l = h.low z.0 z.1 (own z.0 b z.2 p) in
            let e = ap (λ (x : Pending). x.op) z.2 ∙ s.op z.0 in omega (arith, l, e);
      }
    where
      own : (a b : Pending) → b ≡ f a → is_of_client c b ≡ true → is_of_client c a ≡ true
      own a b e p = ap (λ (d : ClientId). d.0 == c.0) (sym (ap (λ (x : Pending). x.client) e ∙ s.client a)) ∙ p

      its : (a b : Pending) → b ≡ f a → which b.ask ≡ true → which a.ask ≡ true
      its a b e p = ap which (sym (ap (λ (x : Pending). x.ask) e ∙ s.ask a)) ∙ p

      later : (a b : Pending) → ((x : Pending) × Has x xs × (a ≡ f x)) → ((y : Pending) × Has y xs × (b ≡ f y)) → is_of_client c a ≡ true →
          is_of_client c b ≡ true → which a.ask ≡ true → which b.ask ≡ true → a.op ≤ b.op → mark a ≡ true → mark b ≡ true
      later a b x y p q v w l m =
          ap mark y.2 ∙ (s.mark_ y.0 ∙ by (or_cases (mark x.0) (n x.0.ask) (sym (s.mark_ x.0) ∙ (sym (ap mark x.2) ∙ m))))
        where
          below : x.0.op ≤ y.0.op
          below =
              let d = ap (λ (z : Pending). z.op) x.2 ∙ s.op x.0 in let e = ap (λ (z : Pending). z.op) y.2 ∙ s.op y.0 in omega (arith, l, d, e)

          by : (mark x.0 ≡ true) ⊎ (n x.0.ask ≡ true) → (mark y.0 || n y.0.ask) ≡ true
          by (inl k) =
              or_left (mark y.0) (n y.0.ask)
              (h.later x.0 y.0 x.1 y.1 (own x.0 a x.2 p) (own y.0 b y.2 q) (its x.0 a x.2 v) (its y.0 b y.2 w) below k)
          by (inr k) = or_right (mark y.0) (n y.0.ask) (sym (u x.0.ask y.0.ask (its x.0 a x.2 v) (its y.0 b y.2 w)) ∙ k)

  filtered : (q : Pending → Bool) (xs : List Pending) (asked : List (ClientId × FileId)) → Spread xs asked → Spread (filter q xs) asked
  filtered q xs asked h =
      record {
        later = λ a b i j. h.later a b (has_filter q xs a i).0 (has_filter q xs b j).0;
        low = λ b j. h.low b (has_filter q xs b j).0;
      }

  or_nothing : (b : Bool) → b ≡ (b || false)
  or_nothing true = refl
  or_nothing false = refl

  notices : (v : Volume) → AllSpread v → AllSpread (notice v)
  notices v h =
      mapped (noticing v) (seen v) (record { client = λ a. refl; op = λ a. refl; ask = λ a. refl; mark_ = λ a. noticed v a }) (alike v) v.pending v.asked h

  -- an ask that comes is the last one of its client
  comes : (v : Volume) (d : ClientId) (ask : Ask) → AllSpread v → AllSpread (arrived v d ask)
  comes v d ask h = by (d.0 == c.0) refl
    where
      new : Pending
      new = new_ask v d ask

      grown : (b : Bool) → length (filter (λ x. x.0.0 == c.0) v.asked)
          ≤ length (cond b ((d, file_of ask) ∷ filter (λ x. x.0.0 == c.0) v.asked) (filter (λ x. x.0.0 == c.0) v.asked))
      grown true = omega arith
      grown false = omega arith

      old_low : (b : Pending) → Has b v.pending → is_of_client c b ≡ true → b.op ≤ count c ((d, file_of ask) ∷ v.asked)
      old_low b i p = let l = h.low b i p in let g = grown (d.0 == c.0) in omega (arith, l, g)

      other : (d.0 == c.0) ≡ false → AllSpread (arrived v d ask)
      other e =
          record {
            later = λ a b i j p q. later a b (has_append v.pending (new ∷ []) a i) (has_append v.pending (new ∷ []) b j) p q;
            low = λ b j p. low b (has_append v.pending (new ∷ []) b j) p;
          }
        where
          no : {A : Type 0} (b : Pending) → b ≡ new → is_of_client c b ≡ true → A
          no b q p = Rattle.st_lemmas.proofs.Truth.clash (ap (is_of_client c) (sym q) ∙ p) e

          later : (a b : Pending) → Has a v.pending ⊎ Has a (new ∷ []) → Has b v.pending ⊎ Has b (new ∷ []) → is_of_client c a ≡ true →
              is_of_client c b ≡ true → which a.ask ≡ true → which b.ask ≡ true → a.op ≤ b.op → mark a ≡ true → mark b ≡ true
          later a b (inl i) (inl j) p q v w l m = h.later a b i j p q v w l m
          later a b (inr (inl i)) j p q v w l m = no a i p
          later a b (inr (inr i)) j p q v w l m = absurd i
          later a b (inl i) (inr (inl j)) p q v w l m = no b j q
          later a b (inl i) (inr (inr j)) p q v w l m = absurd j

          low : (b : Pending) → Has b v.pending ⊎ Has b (new ∷ []) → is_of_client c b ≡ true → b.op ≤ count c ((d, file_of ask) ∷ v.asked)
          low b (inl j) p = old_low b j p
          low b (inr (inl j)) p = no b j p
          low b (inr (inr j)) p = absurd j

      mine : (d.0 == c.0) ≡ true → AllSpread (arrived v d ask)
      mine e =
          record {
            later = λ a b i j p q. later a b (has_append v.pending (new ∷ []) a i) (has_append v.pending (new ∷ []) b j) p q;
            low = λ b j p. low b (has_append v.pending (new ∷ []) b j) p;
          }
        where
          is : d ≡ c
          is = client_is d c e

          number : new.op ≡ count c v.asked + 1
          number = ap (λ (y : ClientId). count y v.asked + 1) is

          more : count c ((d, file_of ask) ∷ v.asked) ≡ count c v.asked + 1
          more = ap (λ b. length (cond b ((d, file_of ask) ∷ filter (λ x. x.0.0 == c.0) v.asked) (filter (λ x. x.0.0 == c.0) v.asked))) e ∙ one
            where
              one : length ((d, file_of ask) ∷ filter (λ x. x.0.0 == c.0) v.asked) ≡ count c v.asked + 1
              one = omega arith

          op_of : (b : Pending) → b ≡ new → b.op ≡ count c v.asked + 1
          op_of b q = ap (λ (x : Pending). x.op) q ∙ number

          later : (a b : Pending) → Has a v.pending ⊎ Has a (new ∷ []) → Has b v.pending ⊎ Has b (new ∷ []) → is_of_client c a ≡ true →
              is_of_client c b ≡ true → which a.ask ≡ true → which b.ask ≡ true → a.op ≤ b.op → mark a ≡ true → mark b ≡ true
          later a b (inl i) (inl j) p q v w l m = h.later a b i j p q v w l m
          later a b (inl i) (inr (inl j)) p q x w l m =
              ap mark j
              ∙ (ap (λ (y : ClientId). mark (new_ask v y ask)) is ∙ taken v ask a (sym (ap (λ (z : Pending). which z.ask) j) ∙ w) i p x m)
          later a b (inl i) (inr (inr j)) p q v w l m = absurd j
          later a b (inr (inl i)) (inl j) p q x w l m =
              let k = h.low b j q in let n = op_of a i in absurd (omega (arith, k, n, l))
          later a b (inr (inl i)) (inr (inl j)) p q v w l m = ap mark (j ∙ sym i) ∙ m
          later a b (inr (inl i)) (inr (inr j)) p q v w l m = absurd j
          later a b (inr (inr i)) j p q v w l m = absurd i

          low : (b : Pending) → Has b v.pending ⊎ Has b (new ∷ []) → is_of_client c b ≡ true → b.op ≤ count c ((d, file_of ask) ∷ v.asked)
          low b (inl j) p = old_low b j p
          low b (inr (inl j)) p = let n = op_of b j in let m = more in omega (arith, n, m)
          low b (inr (inr j)) p = absurd j

      by : (b : Bool) → (d.0 == c.0) ≡ b → AllSpread (arrived v d ask)
      by true e = mine e
      by false e = other e

  -- an ask takes effect
  done_spread : (v : Volume) (a : Pending) (y : Volume × AppAnswer) → Leaves v y → AllSpread v → AllSpread (done a y)
  done_spread v a y k h =
      mapped (resulting a y.1) (λ x. false)
      (record {
        client = λ b. client b (is_ask a.client a.op b);
        op = λ b. op b (is_ask a.client a.op b);
        ask = λ b. ask b (is_ask a.client a.op b);
        mark_ = λ b. same b (is_ask a.client a.op b);
      }) (λ x z p q. refl) y.0.pending y.0.asked
      (subst (λ xs. Spread xs y.0.asked) (sym k.pending) (subst (Spread v.pending) (sym k.asked) h))
    where
      client : (b : Pending) (t : Bool) → (if t then record b { result = Some y.1 } else b).client ≡ b.client
      client b true = refl
      client b false = refl

      op : (b : Pending) (t : Bool) → (if t then record b { result = Some y.1 } else b).op ≡ b.op
      op b true = refl
      op b false = refl

      ask : (b : Pending) (t : Bool) → (if t then record b { result = Some y.1 } else b).ask ≡ b.ask
      ask b true = refl
      ask b false = refl

      same : (b : Pending) (t : Bool) → mark (if t then record b { result = Some y.1 } else b) ≡ (mark b || false)
      same b true = resulted a b y.1 ∙ or_nothing (mark b)
      same b false = or_nothing (mark b)

  effect_spread : (v : Volume) (d : ClientId) (number : ℕ) → AllSpread v → OnSome AllSpread (acts v (kinds.TakesEffect d number))
  effect_spread v d number h =
      on_map AllSpread notice (option_and_then (takes v) (find (is_ask d number) (v.pending ++ v.orphans)))
      (on_then (λ u. AllSpread (notice u)) (takes v) (find (is_ask d number) (v.pending ++ v.orphans))
      (on_all (λ a. OnSome (λ u. AllSpread (notice u)) (takes v a))
      (λ a. on_else (λ u. AllSpread (notice u)) (is_some a.result || list_any (is_before a) v.pending) (option_map (done a) (effect v a.client a.ask))
      (on_map (λ u. AllSpread (notice u)) (done a) (effect v a.client a.ask)
      (on_more (Leaves v) (λ y. AllSpread (notice (done a y))) (λ y k. notices (done a y) (done_spread v a y k h)) (effect v a.client a.ask)
      (effect_keeps v a.client a.ask)))) (find (is_ask d number) (v.pending ++ v.orphans))))

  fate_spread : (v : Volume) (i : ℕ) (test : Entry → Bool) (fate : Fate) → AllSpread v → OnSome AllSpread (with_fate v i test fate)
  fate_spread v i test fate h =
      on_map AllSpread (with_changed v i) (option_and_then (ends test fate) (numbered v.log i))
      (on_all (λ e. AllSpread (with_changed v i e)) (λ e. h) (option_and_then (ends test fate) (numbered v.log i)))

  failed_spread : (d : ClientId) (number : ℕ) (test : Ask → Bool) (xs : List Pending) (asked : List (ClientId × FileId)) → Spread xs asked →
      Spread (map (fails d number test) xs) asked
  failed_spread d number test xs asked h =
      mapped (fails d number test) (λ x. false)
      (record {
        client = λ b. client b (is_of_client d b && test b.ask);
        op = λ b. op b (is_of_client d b && test b.ask);
        ask = λ b. ask b (is_of_client d b && test b.ask);
        mark_ = λ b. same b (is_of_client d b && test b.ask);
      }) (λ x z p q. refl) xs asked h
    where
      client : (b : Pending) (t : Bool) → (if t then record b { faults = number ∷ b.faults } else b).client ≡ b.client
      client b true = refl
      client b false = refl

      op : (b : Pending) (t : Bool) → (if t then record b { faults = number ∷ b.faults } else b).op ≡ b.op
      op b true = refl
      op b false = refl

      ask : (b : Pending) (t : Bool) → (if t then record b { faults = number ∷ b.faults } else b).ask ≡ b.ask
      ask b true = refl
      ask b false = refl

      same : (b : Pending) (t : Bool) → mark (if t then record b { faults = number ∷ b.faults } else b) ≡ (mark b || false)
      same b true = faulted b number ∙ or_nothing (mark b)
      same b false = or_nothing (mark b)

  closes : (v u : Volume) (a : Pending) → u.pending ≡ v.pending → u.asked ≡ v.asked → AllSpread v → AllSpread (closed a u)
  closes v u a p q h =
      filtered (λ b. not (is_ask a.client a.op b)) u.pending u.asked
      (subst (λ xs. Spread xs u.asked) (sym p) (subst (Spread v.pending) (sym q) h))

  acts_spread : (v : Volume) (it : VolumeStep) → AllSpread v → OnSome AllSpread (acts v it)
  acts_spread v (kinds.Asked d ask) h =
      on_if AllSpread (nat_le (length (open_of v d)) 16) (Some (notice (arrived v d ask))) (notices (arrived v d ask) (comes v d ask h))
  acts_spread v (kinds.TakesEffect d number) h = effect_spread v d number h
  acts_spread v (kinds.Answered d number answer) h =
      on_then AllSpread (answered v answer) (find (is_ask d number) v.pending)
      (on_all (λ a. OnSome AllSpread (answered v answer a))
      (λ a. on_if AllSpread (answers_so v a answer a.result) (Some (closed a (after_answer v a answer)))
      (closes v (after_answer v a answer) a (after_keeps v a answer).pending (after_keeps v a answer).asked h))
      (find (is_ask d number) v.pending))
  acts_spread v (kinds.Hardened i) h = fate_spread v i (λ e. true) fates.Hard h
  acts_spread v (kinds.Dropped i cause) h = fate_spread v i (is_cause cause) fates.Dropped h
  acts_spread v (kinds.Crashed d) h = filtered (λ a. not (is_of_client d a)) v.pending v.asked h
  acts_spread v (kinds.Restarted s) h = h
  acts_spread v (kinds.WriteFailed d number i) h =
      on_map AllSpread (failed v d number i) (option_and_then (λ e. place_of e.what) (numbered v.log i))
      (on_all (λ x. AllSpread (failed v d number i x)) (λ x. failed_spread d number (is_sync_of x.0) v.pending v.asked h)
      (option_and_then (λ e. place_of e.what) (numbered v.log i)))
  acts_spread v (kinds.ReadFailed d s number) h = failed_spread d number (is_read_of s) v.pending v.asked h
  acts_spread v (kinds.Joined i d what) h = tt

  step_spread : (v : Volume) (it : VolumeStep) → AllSpread v → OnSome AllSpread (volume.step v it)
  step_spread v (kinds.Joined i d what) h = on_if AllSpread _ (Some (record v { lines = i })) h
  step_spread v (kinds.Asked d ask) h = on_if AllSpread (v.lines == length v.log) (acts v (kinds.Asked d ask)) (acts_spread v (kinds.Asked d ask) h)
  step_spread v (kinds.TakesEffect d number) h =
      on_if AllSpread (v.lines == length v.log) (acts v (kinds.TakesEffect d number)) (acts_spread v (kinds.TakesEffect d number) h)
  step_spread v (kinds.Answered d number answer) h =
      on_if AllSpread (v.lines == length v.log) (acts v (kinds.Answered d number answer)) (acts_spread v (kinds.Answered d number answer) h)
  step_spread v (kinds.Hardened i) h = on_if AllSpread (v.lines == length v.log) (acts v (kinds.Hardened i)) (acts_spread v (kinds.Hardened i) h)
  step_spread v (kinds.Dropped i cause) h =
      on_if AllSpread (v.lines == length v.log) (acts v (kinds.Dropped i cause)) (acts_spread v (kinds.Dropped i cause) h)
  step_spread v (kinds.Crashed d) h = on_if AllSpread (v.lines == length v.log) (acts v (kinds.Crashed d)) (acts_spread v (kinds.Crashed d) h)
  step_spread v (kinds.Restarted s) h = on_if AllSpread (v.lines == length v.log) (acts v (kinds.Restarted s)) (acts_spread v (kinds.Restarted s) h)
  step_spread v (kinds.WriteFailed d number i) h =
      on_if AllSpread (v.lines == length v.log) (acts v (kinds.WriteFailed d number i)) (acts_spread v (kinds.WriteFailed d number i) h)
  step_spread v (kinds.ReadFailed d s number) h =
      on_if AllSpread (v.lines == length v.log) (acts v (kinds.ReadFailed d s number)) (acts_spread v (kinds.ReadFailed d s number) h)

  run_spread : (its : List VolumeStep) (v : Volume) → AllSpread v → OnSome AllSpread (run its v)
  unfolding run
  run_spread [] v h = h
  run_spread (it ∷ its) v h =
      on_then AllSpread (run its) (volume.step v it)
      (on_more AllSpread (λ u. OnSome AllSpread (run its u)) (λ u k. run_spread its u k) (volume.step v it) (step_spread v it h))

  -- an event
  pub after_spread : (it : Witness) (x : Step) (o : Option Volume) → OnSome AllSpread o → OnSome AllSpread (volume_after it x o)
  after_spread it x None h = tt
  after_spread it x (Some v) h =
      on_then AllSpread if_told (run (steps_of it v x) v)
      (on_more AllSpread (λ u. OnSome AllSpread (if_told u)) (λ u k. on_if AllSpread (u.lines == length u.log) (Some u) k) (run (steps_of it v x) v)
      (run_spread (steps_of it v x) v h))

-- Of one page: that the server was full.
abbrev pub at_page : FileId → PageNo → Ask → Bool
at_page f p ask = is_at (f, p) ask

module _ (c : ClientId) (f : FileId) (p : PageNo) where
  page_is : (ask : Ask) → at_page f p ask ≡ true → place_of ask ≡ Some (f, p)
  page_is ask e = by ask e
    where
      its : (g : FileId) (q : PageNo) → (same_file f g && (p.0 == q.0)) ≡ true → ◌≡◌ {A = Option (FileId × PageNo)} (Some (g, q)) (Some (f, p))
      its g q e =
          let z = and_true (same_file f g) (p.0 == q.0) e in
          ap (λ (h : FileId). Some (h, q)) (sym (same_is f g z.0)) ∙ ap (λ n. Some (f, record { 0 = n })) (sym (eqb-true p.0 q.0 z.1))

      by : (ask : Ask) → is_any (λ x. same_file f x.0 && (p.0 == x.1.0)) (place_of ask) ≡ true → place_of ask ≡ Some (f, p)
      by (asks.Write g q bytes) e = its g q e
      by (asks.Patch g q at bytes) e = its g q e
      by (asks.Read g q) e = cc e
      by (asks.Sync g) e = cc e
      by (asks.Cut g q) e = cc e
      by (asks.Name s ask) e = cc e

  page_server : (ask : Ask) → place_of ask ≡ Some (f, p) → server_of ask ≡ f.server
  page_server ask e = by ask e
    where
      its : (g : FileId) (q : PageNo) → ◌≡◌ {A = Option (FileId × PageNo)} (Some (g, q)) (Some (f, p)) → g.server ≡ f.server
      its g q e = ap (λ (x : FileId × PageNo). x.0.server) (some_is e)

      by : (ask : Ask) → place_of ask ≡ Some (f, p) → server_of ask ≡ f.server
      by (asks.Write g q bytes) e = its g q e
      by (asks.Patch g q at bytes) e = its g q e
      by (asks.Read g q) e = cc e
      by (asks.Sync g) e = cc e
      by (asks.Cut g q) e = cc e
      by (asks.Name s ask) e = cc e

  abbrev full_mark : Pending → Bool
  full_mark a = a.full

  abbrev full_seen : Volume → Ask → Bool
  full_seen v ask = is_full v (server_of ask)

  pub full_alike : (v : Volume) (a b : Ask) → at_page f p a ≡ true → at_page f p b ≡ true → full_seen v a ≡ full_seen v b
  full_alike v a b q r = ap (is_full v) (page_server a (page_is a q) ∙ sym (page_server b (page_is b r)))

  pub full_taken : (v : Volume) (ask : Ask) (a : Pending) → at_page f p ask ≡ true → Has a v.pending → is_of_client c a ≡ true → at_page f p a.ask ≡ true →
      a.full ≡ true → list_any (is_full_for ask) (open_of v c) ≡ true
  full_taken v ask a q i own r m =
      some_passes (is_full_for ask) (open_of v c) a (has_filter_in (is_of_client c) v.pending a i own)
      (and_both a.full (is_any (λ x. is_at x a.ask) (place_of ask)) m (ap (is_any (λ x. is_at x a.ask)) (page_is ask q) ∙ r))

  abbrev pub FullSpread : Volume → Type 0
  FullSpread v = AllSpread c (at_page f p) full_mark full_seen full_alike (λ v a. refl) (λ a b d. refl) (λ a n. refl) full_taken v

  pub full_after : (it : Witness) (x : Step) (o : Option Volume) → OnSome FullSpread o → OnSome FullSpread (volume_after it x o)
  full_after = after_spread c (at_page f p) full_mark full_seen full_alike (λ v a. refl) (λ a b d. refl) (λ a n. refl) full_taken

  pub full_begins : (sizes : List ℕ) → FullSpread (fresh_volume sizes)
  full_begins sizes = record { later = λ a b i. absurd i; low = λ b i. absurd i }

-- Of one file: that it didn't exist.
abbrev pub of_this : FileId → Ask → Bool
of_this f ask = same_file (file_of ask) f

module _ (c : ClientId) (f : FileId) where
  abbrev missed_mark : Pending → Bool
  missed_mark a = a.missed

  abbrev missed_seen : Volume → Ask → Bool
  missed_seen v ask = nat_lt 0 (file_of ask).ino && not (exists v (file_of ask))

  pub missed_alike : (v : Volume) (a b : Ask) → of_this f a ≡ true → of_this f b ≡ true → missed_seen v a ≡ missed_seen v b
  missed_alike v a b q r =
      ap (λ (g : FileId). nat_lt 0 g.ino && not (exists v g)) (same_is (file_of a) f q ∙ sym (same_is (file_of b) f r))

  pub missed_taken : (v : Volume) (ask : Ask) (a : Pending) → of_this f ask ≡ true → Has a v.pending → is_of_client c a ≡ true → of_this f a.ask ≡ true →
      a.missed ≡ true → list_any (λ b. same_file (file_of b.ask) (file_of ask) && b.missed) (open_of v c) ≡ true
  missed_taken v ask a q i own r m =
      some_passes (λ b. same_file (file_of b.ask) (file_of ask) && b.missed) (open_of v c) a (has_filter_in (is_of_client c) v.pending a i own)
      (and_both (same_file (file_of a.ask) (file_of ask)) a.missed (ap (same_file (file_of a.ask)) (same_is (file_of ask) f q) ∙ r) m)

  abbrev pub MissedSpread : Volume → Type 0
  MissedSpread v = AllSpread c (of_this f) missed_mark missed_seen missed_alike (λ v a. refl) (λ a b d. refl) (λ a n. refl) missed_taken v

  pub missed_after : (it : Witness) (x : Step) (o : Option Volume) → OnSome MissedSpread o → OnSome MissedSpread (volume_after it x o)
  missed_after = after_spread c (of_this f) missed_mark missed_seen missed_alike (λ v a. refl) (λ a b d. refl) (λ a n. refl) missed_taken

  pub missed_begins : (sizes : List ℕ) → MissedSpread (fresh_volume sizes)
  missed_begins sizes = record { later = λ a b i. absurd i; low = λ b i. absurd i }
