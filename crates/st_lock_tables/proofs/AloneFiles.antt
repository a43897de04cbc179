-- The files for which a client waits and of which it has no row, among those for which it waits.
use Rattle.std.proofs.Common.{◌≡◌, ℕ, ◌+◌, ◌<◌, Bool, true, false, cond, if◌then◌else◌, List, [], ◌∷◌, map, filter, length, take, get_or, sym, ap, ◌∙◌, refl, length-append}
use Rattle.std.specs.Prelude.{◌&&◌}
use Rattle.std.specs.List.{IsDistinct}
use Rattle.std.proofs.lemmas.List.{take_more}
use Rattle.std.proofs.lemmas.List.Elements.{filter-append}
use Rattle.st_base.specs.declared.ids.ClientId.{ClientId}
use Rattle.st_rules.specs.Keys.{rising}
use Rattle.st_rules.specs.Locks.{Locks, ino_of_wait, is_wait_by}
use Rattle.st_tables.specs.Tables.{lock_key, same_key, wait_key}
use Rattle.st_tables.proofs.RisingKeys.{has, has_rising, one_rising, rising_rises}
use Rattle.st_lock_tables.specs.Calls.{has_no_row, waits_alone}
use Rattle.st_lock_tables.proofs.Files.{alone_counted, alone_have}
use Rattle.st_lock_tables.proofs.Rising.{and_turn, has_filter, rising_filter}

module _ (l : Locks) (c : ClientId) where
  alone_told : filter (has_no_row l.rows c) (rising (map ino_of_wait (filter (is_wait_by c) l.waiters))) ≡ rising (map ino_of_wait (filter (waits_alone l.rows c) l.waiters))
  alone_told =
      let t = has_no_row l.rows c in
      let ks = map ino_of_wait (filter (is_wait_by c) l.waiters) in
      let js = map ino_of_wait (filter (waits_alone l.rows c) l.waiters) in
      one_rising (filter t (rising ks)) (rising js) (rising_filter t (rising ks) (rising_rises ks)) (rising_rises js)
      (λ k. has_filter t k (rising ks) ∙ ap (λ z. t k && z) (has_rising k ks) ∙ and_turn (t k) (has k ks) ∙ sym (alone_have l c k) ∙ sym (has_rising k js))

  -- as many as there are waits for files of which the client has no row
  pub alone_among : IsDistinct same_key (map lock_key l.rows) → IsDistinct same_key (map wait_key l.waiters) → length (filter (has_no_row l.rows c) (rising (map ino_of_wait (filter (is_wait_by c) l.waiters)))) ≡ length (filter (waits_alone l.rows c) l.waiters)
  alone_among d e = ap length alone_told ∙ alone_counted l c d e

one_kept : (t : ℕ → Bool) (x : ℕ) (b : Bool) → length (cond b (x ∷ []) []) ≡ (if b then 1 else 0)
one_kept t x true = refl
one_kept t x false = refl

-- one file more is looked at
pub counted_more : (t : ℕ → Bool) (xs : List ℕ) (i d : ℕ) → i < length xs → length (filter t (take (i + 1) xs)) ≡ length (filter t (take i xs)) + (if t (get_or xs i d) then 1 else 0)
counted_more t xs i d l =
    ap (λ ys. length (filter t ys)) (take_more xs i d l) ∙ ap length (filter-append t (take i xs) (get_or xs i d ∷ [])) ∙ length-append (filter t (take i xs)) (filter t (get_or xs i d ∷ []))
    ∙ ap (λ n. length (filter t (take i xs)) + n) (one_kept t (get_or xs i d) (t (get_or xs i d)))
