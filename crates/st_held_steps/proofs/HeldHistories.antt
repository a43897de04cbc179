-- What always holds of held steps.
use Rattle.std.proofs.Common.{◌≡◌, ℕ, ◌+◌, ◌^◌, ◌<◌, ◌≤◌, Bool, true, false, ◌&&◌, cond, ltb, leb, List, [], ◌∷◌, ◌++◌, refl, sym, ap, ◌∙◌, subst, append_assoc, append-nil, arith}
use Rattle.std.specs.Prelude.{nat_le, nat_lt}
use Rattle.std.specs.List.{AllByRecursion}
use Rattle.std.proofs.lemmas.Bool.{ltb-true, ltb-false, leb-true, leb-false}
use Rattle.st_held_steps.specs.Held.{Held, kept_more, made_after, may_step, stepped}
use Rattle.st_held_steps.specs.Histories.{Event, Steps, Keeps, Takes, World, happens, run, start, steps, takes}
use Rattle.st_held_steps.specs.declared.held.Marked.{Marked}

-- the marks of these steps rise, from one number to another
abbrev pub RisesTo : {T : Type 0} → ℕ → List (Marked T) → ℕ → Type 0
RisesTo a [] n = a ≤ n
RisesTo a (m ∷ ms) n = (a ≤ m.changes) × RisesTo m.changes ms n

pub record Holds {T : Type 0} (limit : ℕ) (w : World T) : Type 0 where
  pub limit_so : w.held.limit ≡ limit
  pub order : w.given ++ w.held.steps ≡ w.all
  pub kept : AllByRecursion (λ (m : Marked T). m.changes ≤ w.held.kept) w.given
  pub rises : RisesTo 0 w.held.steps w.held.made
  pub within : w.held.kept ≤ w.held.made
  pub few : w.held.made ≤ w.held.kept + limit

made_more : (n : ℕ) (b : Bool) → (n ≤ made_after n b) × (made_after n b ≤ n + 1)
made_more n true = (omega arith, omega arith)
made_more n false = (omega arith, omega arith)

and_first : (a b : Bool) → (a && b) ≡ true → a ≡ true
and_first true b e = refl
and_first false b e = cc

kept_so : (kept count made : ℕ) (b : Bool) → ltb (kept + count) made ≡ b → kept ≤ made →
    (kept ≤ cond b (kept + count) made) × (cond b (kept + count) made ≤ made)
kept_so kept count made true e le = (omega arith, omega (arith, ltb-true (kept + count) made e))
kept_so kept count made false e le = (le, omega arith)

module _ {T : Type 0} where
  all_last : (n : ℕ) (ms : List (Marked T)) (m : Marked T) → AllByRecursion (λ (x : Marked T). x.changes ≤ n) ms → m.changes ≤ n →
      AllByRecursion (λ (x : Marked T). x.changes ≤ n) (ms ++ m ∷ [])
  all_last n [] m h le = (le, tt)
  all_last n (x ∷ xs) m h le = (h.0, all_last n xs m h.1 le)

  all_more : (n k : ℕ) (ms : List (Marked T)) → n ≤ k → AllByRecursion (λ (x : Marked T). x.changes ≤ n) ms →
      AllByRecursion (λ (x : Marked T). x.changes ≤ k) ms
  all_more n k [] le h = tt
  all_more n k (x ∷ xs) le h = (omega (arith, h.0, le), all_more n k xs le h.1)

  rises_last : (a n : ℕ) (ms : List (Marked T)) (m : Marked T) → RisesTo a ms n → n ≤ m.changes → RisesTo a (ms ++ m ∷ []) m.changes
  rises_last a n [] m h le = (omega (arith, h, le), omega arith)
  rises_last a n (x ∷ xs) m h le = (h.0, rises_last x.changes n xs m h.1 le)

  rises_from : (a b n : ℕ) (ms : List (Marked T)) → b ≤ a → RisesTo a ms n → RisesTo b ms n
  rises_from a b n [] le h = omega (arith, le, h)
  rises_from a b n (x ∷ xs) le h = (omega (arith, le, h.0), h.1)

  waits_on : (k a n : ℕ) (ms : List (Marked T)) → k < a → RisesTo a ms n → AllByRecursion (λ (x : Marked T). k < x.changes) ms
  waits_on k a n [] lt h = tt
  waits_on k a n (x ∷ xs) lt h = (omega (arith, lt, h.0), waits_on k x.changes n xs (omega (arith, lt, h.0)) h.1)

  after_step : (limit : ℕ) (w : World T) (what : T) (changed : Bool) → Holds limit w → may_step w.held ≡ true → Holds limit (steps w what changed)
  after_step limit w what changed h may =
      let m : Marked T = record { what = what; changes = made_after w.held.made changed } in
      let more = made_more w.held.made changed in
      let room : w.held.made < w.held.kept + w.held.limit =
      ltb-true w.held.made (w.held.kept + w.held.limit) (and_first (ltb w.held.made (w.held.kept + w.held.limit)) (ltb w.held.made (2 ^ 62)) may) in
      record {
        limit_so = h.limit_so;
        order = sym (append_assoc w.given w.held.steps (m ∷ [])) ∙ ap (λ (xs : List (Marked T)). xs ++ m ∷ []) h.order;
        kept = h.kept;
        rises = rises_last 0 w.held.made w.held.steps m h.rises more.0;
        within = omega (arith, h.within, more.0);
        few = omega (arith, room, more.1, h.limit_so);
      }

  may_or_not : (limit : ℕ) (w : World T) (what : T) (changed : Bool) (b : Bool) → may_step w.held ≡ b → Holds limit w →
      Holds limit (cond b (steps w what changed) w)
  may_or_not limit w what changed true e h = after_step limit w what changed h e
  may_or_not limit w what changed false e h = h

  after_keep : (limit : ℕ) (w : World T) (count : ℕ) → Holds limit w → Holds limit (record w { held = kept_more w.held count })
  after_keep limit w count h =
      let so = kept_so w.held.kept count w.held.made (ltb (w.held.kept + count) w.held.made) refl h.within in
      record {
        limit_so = h.limit_so;
        order = h.order;
        kept = all_more w.held.kept (kept_more w.held count).kept w.given so.0 h.kept;
        rises = h.rises;
        within = so.1;
        few = omega (arith, h.few, so.0);
      }

  taken : (limit : ℕ) (w : World T) (m : Marked T) (ms : List (Marked T)) → w.held.steps ≡ m ∷ ms → m.changes ≤ w.held.kept → Holds limit w →
      Holds limit (record w { held = record w.held { steps = ms }; given = w.given ++ m ∷ [] })
  taken limit w m ms e le h = record {
    limit_so = h.limit_so;
    order = append_assoc w.given (m ∷ []) ms ∙ (ap (λ (xs : List (Marked T)). w.given ++ xs) (sym e) ∙ h.order);
    kept = all_last w.held.kept w.given m h.kept le;
    rises =
        let r : RisesTo 0 (m ∷ ms) w.held.made = subst (λ (xs : List (Marked T)). RisesTo 0 xs w.held.made) e h.rises in
        rises_from m.changes 0 w.held.made ms (omega arith) r.1;
    within = h.within;
    few = h.few;
  }

  ready_or_not : (limit : ℕ) (w : World T) (m : Marked T) (ms : List (Marked T)) (b : Bool) → w.held.steps ≡ m ∷ ms → leb m.changes w.held.kept ≡ b →
      Holds limit w
      → Holds limit (cond b (record w { held = record w.held { steps = ms }; given = w.given ++ m ∷ [] }) w)
  ready_or_not limit w m ms true e le h = taken limit w m ms e (leb-true m.changes w.held.kept le) h
  ready_or_not limit w m ms false e le h = h

  after_take : (limit : ℕ) (w : World T) (ms : List (Marked T)) → w.held.steps ≡ ms → Holds limit w → Holds limit (takes w ms)
  after_take limit w [] e h = h
  after_take limit w (m ∷ ms) e h = ready_or_not limit w m ms (leb m.changes w.held.kept) e refl h

  after : (limit : ℕ) (w : World T) (e : Event T) → Holds limit w → Holds limit (happens w e)
  after limit w (Steps what changed) h = may_or_not limit w what changed (may_step w.held) refl h
  after limit w (Keeps count) h = after_keep limit w count h
  after limit w Takes h = after_take limit w w.held.steps refl h

  after_all : (limit : ℕ) (es : List (Event T)) (w : World T) → Holds limit w → Holds limit (run es w)
  after_all limit [] w h = h
  after_all limit (e ∷ es) w h = after_all limit es (happens w e) (after limit w e h)

  holds : (limit : ℕ) (es : List (Event T)) → Holds limit (run es (start limit))
  holds limit es =
      after_all limit es (start limit) (record { limit_so = refl; order = refl; kept = tt; rises = omega arith; within = omega arith; few = omega arith })

  pub in_order : (limit : ℕ) (es : List (Event T)) → (run es (start limit)).given ++ (run es (start limit)).held.steps ≡ (run es (start limit)).all
  in_order limit es = (holds limit es).order

  pub all_kept : (limit : ℕ) (es : List (Event T)) → AllByRecursion (λ (m : Marked T). m.changes ≤ (run es (start limit)).held.kept)
      (run es (start limit)).given
  all_kept limit es = (holds limit es).kept

  pub all_wait : (limit : ℕ) (es : List (Event T)) (m : Marked T) (ms : List (Marked T)) → (run es (start limit)).held.steps ≡ m ∷ ms →
      (run es (start limit)).held.kept < m.changes
      → AllByRecursion (λ (n : Marked T). (run es (start limit)).held.kept < n.changes) ms
  all_wait limit es m ms e lt =
      let r : RisesTo 0 (m ∷ ms) (run es (start limit)).held.made =
      subst (λ (xs : List (Marked T)). RisesTo 0 xs (run es (start limit)).held.made) e (holds limit es).rises in
      waits_on (run es (start limit)).held.kept m.changes (run es (start limit)).held.made ms lt r.1

  pub few_wait : (limit : ℕ) (es : List (Event T)) → (run es (start limit)).held.made ≤ (run es (start limit)).held.kept + limit
  few_wait limit es = (holds limit es).few
