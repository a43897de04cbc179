-- The places of the commands that were not reported, when one more comes, has its effect or is reported; what they spare.
use Rattle.std.proofs.Common.{◌≡◌, ℕ, zero, suc, ◌+◌, ◌<◌, ◌≤◌, Bool, true, false, if◌then◌else◌, List, [], ◌∷◌, ◌++◌, length, set, refl, sym, ap, subst, ◌∙◌, arith}
use Rattle.std.specs.Prelude.{◌&&◌, ◌||◌, ◌==◌, not, nat_lt, filter, slice_get, Option, Some, None}
use Rattle.std.specs.List.{list_all, list_any, zip}
use Rattle.std.proofs.lemmas.Bool.{lt-ltb, ne_eqb, eq-eqb}
use Rattle.std.proofs.lemmas.List.{append_assoc, length-append}
use Rattle.std.proofs.lemmas.List.Folds.{list_any-append}
use Rattle.std.proofs.Math.Seq.{get_or-append_seam}
use Rattle.st_model.specs.Walks as walks
use Rattle.st_rules.specs.declared.disks.DiskCommand.{DiskCommand}
use Rattle.st_rules.specs.declared.log.LogOwner.{LogOwner}
use Rattle.st_rules.specs.declared.world.Carried.{Carried}
use Rattle.st_rules.specs.declared.world.IssuedCommand.{IssuedCommand}
use Rattle.st_rules.specs.Admissible.{is_open}
use Rattle.st_rules.specs.World.{owner_carried}
use Rattle.st_rules.specs.Events.{spares, spares_by}
use Rattle.st_world_parts.specs.OutstandingCommands.{open_from, spare_of, nth, spares_at, is_below}

-- one more command that was not reported
pub open_more : (n : ℕ) (ds : List DiskCommand) (d : DiskCommand) → is_open d.report ≡ true → open_from n (ds ++ d ∷ []) ≡ open_from n ds ++ (n + length ds) ∷ []
open_more n [] d h = ap (λ b. if b then n ∷ [] else []) h ∙ ap (λ k. k ∷ []) (let s : n ≡ n + 0 = omega arith in s)
open_more n (x ∷ ds) d h =
    let more : open_from (n + 1) (ds ++ d ∷ []) ≡ open_from (n + 1) ds ++ (n + suc (length ds)) ∷ [] =
    open_more (n + 1) ds d h ∙ ap (λ k. open_from (n + 1) ds ++ k ∷ []) (let s : n + 1 + length ds ≡ n + suc (length ds) = omega arith in s) in
    put_first (is_open x.report) n (open_from (n + 1) ds) ((n + suc (length ds)) ∷ []) (open_from (n + 1) (ds ++ d ∷ [])) more
  where
    put_first : (b : Bool) (n : ℕ) (ks ls all : List ℕ) → all ≡ ks ++ ls → (if b then n ∷ all else all) ≡ (if b then n ∷ ks else ks) ++ ls
    put_first true n ks ls all h = ap (λ l. n ∷ l) h
    put_first false n ks ls all h = h

-- a command whose report stays
pub open_stays : (n i : ℕ) (ds : List DiskCommand) (c d : DiskCommand) → slice_get ds i ≡ Some c → is_open d.report ≡ is_open c.report → open_from n (set ds i d) ≡ open_from n ds
open_stays n i [] c d h q = refl
open_stays n zero (x ∷ ds) c d h q =
    let is : x ≡ c = cc in
    ap (λ b. if b then n ∷ open_from (n + 1) ds else open_from (n + 1) ds) (q ∙ ap (λ (y : DiskCommand). is_open y.report) (sym is))
open_stays n (suc i) (x ∷ ds) c d h q = ap (λ ks. if is_open x.report then n ∷ ks else ks) (open_stays (n + 1) i ds c d h q)

-- places from a number on are not below it
filter_first : (b : Bool) (n k : ℕ) (ks : List ℕ) → (n == k) ≡ false → filter (λ x. not (x == k)) ks ≡ ks → filter (λ x. not (x == k)) (if b then n ∷ ks else ks) ≡ (if b then n ∷ ks else ks)
filter_first true n k ks other rest = rw other (ap (λ l. n ∷ l) rest)
filter_first false n k ks other rest = rest

none_below : (n k : ℕ) (ds : List DiskCommand) → k < n → filter (λ x. not (x == k)) (open_from n ds) ≡ open_from n ds
none_below n k [] h = refl
none_below n k (d ∷ ds) h =
    filter_first (is_open d.report) n k (open_from (n + 1) ds) (ne_eqb n k (λ e. omega (arith, h, e))) (none_below (n + 1) k ds (omega (arith, h)))

closed_first : (b : Bool) (n k : ℕ) (ks : List ℕ) → (n == k) ≡ true → filter (λ x. not (x == k)) ks ≡ ks → filter (λ x. not (x == k)) (if b then n ∷ ks else ks) ≡ ks
closed_first true n k ks same rest = rw same rest
closed_first false n k ks same rest = rest

closed_later : (b : Bool) (n k m : ℕ) (ks : List ℕ) → (n == k) ≡ false → k ≡ m →
    filter (λ x. not (x == k)) (if b then n ∷ ks else ks) ≡ (if b then n ∷ filter (λ x. not (x == m)) ks else filter (λ x. not (x == m)) ks)
closed_later true n k m ks other at = rw other (ap (λ q. n ∷ filter (λ x. not (x == q)) ks) at)
closed_later false n k m ks other at = ap (λ q. filter (λ x. not (x == q)) ks) at

-- a command that is reported
pub open_closed : (n i : ℕ) (ds : List DiskCommand) (d : DiskCommand) → i < length ds → is_open d.report ≡ false → open_from n (set ds i d) ≡ filter (λ x. not (x == n + i)) (open_from n ds)
open_closed n i [] d h q = absurd (omega arith)
open_closed n zero (x ∷ ds) d h q =
    let here : n ≡ n + 0 = omega arith in
    ap (λ b. if b then n ∷ open_from (n + 1) ds else open_from (n + 1) ds) q
    ∙ sym (closed_first (is_open x.report) n (n + 0) (open_from (n + 1) ds) (eq-eqb n (n + 0) here) (none_below (n + 1) (n + 0) ds (omega arith)))
open_closed n (suc i) (x ∷ ds) d h q =
    let there : n + suc i ≡ n + 1 + i = omega arith in
    ap (λ ks. if is_open x.report then n ∷ ks else ks) (open_closed (n + 1) i ds d (omega (arith, h)) q)
    ∙ sym (closed_later (is_open x.report) n (n + suc i) (n + 1 + i) (open_from (n + 1) ds) (ne_eqb n (n + suc i) (λ e. omega (arith, e))) there)

below_first : (b : Bool) (n m : ℕ) (ks : List ℕ) → nat_lt n m ≡ true → list_all (is_below m) ks ≡ true → list_all (is_below m) (if b then n ∷ ks else ks) ≡ true
below_first true n m ks low rest = rw low rest
below_first false n m ks low rest = rest

-- places are below the count
pub open_below : (n m : ℕ) (ds : List DiskCommand) → n + length ds ≤ m → list_all (is_below m) (open_from n ds) ≡ true
open_below n m [] h = refl
open_below n m (d ∷ ds) h =
    below_first (is_open d.report) n m (open_from (n + 1) ds) (lt-ltb n m (omega (arith, h))) (open_below (n + 1) m ds (omega (arith, h)))

-- What is spared.
spares_one : (number : ℕ) (o : LogOwner) (c : IssuedCommand) (x : Option Carried) → list_any (walks.spares number o) (spare_of c x) ≡ spares_by number o c x
spares_one number o c None = refl
spares_one number o c (Some x) = or_none (walks.spares number o (record { index = x.index; owner = owner_carried c x }))
  where
    or_none : (b : Bool) → (b || false) ≡ b
    or_none true = refl
    or_none false = refl

spared_first : (number : ℕ) (o : LogOwner) (b : Bool) (n : ℕ) (all : List IssuedCommand) (c : IssuedCommand) (ks : List ℕ) (rest : Bool) → nth all n ≡ c →
    list_any (walks.spares number o) (spares_at all ks) ≡ rest →
    list_any (walks.spares number o) (spares_at all (if b then n ∷ ks else ks)) ≡ ((b && spares_by number o c c.carries) || rest)
spared_first number o true n all c ks rest seam h =
    list_any-append (walks.spares number o) (spare_of (nth all n) (nth all n).carries) (spares_at all ks)
    ∙ (λ i. list_any (walks.spares number o) (spare_of (seam i) (seam i).carries) || h i)
    ∙ ap (λ b. b || rest) (spares_one number o c c.carries)
spared_first number o false n all c ks rest seam h = h

-- the places of the commands that were not reported spare what the zipped lists do
pub spared : (number : ℕ) (o : LogOwner) (pre cs : List IssuedCommand) (n : ℕ) (ds : List DiskCommand) → length pre ≡ n → length cs ≡ length ds →
    list_any (walks.spares number o) (spares_at (pre ++ cs) (open_from n ds)) ≡ list_any (spares number o) (zip cs ds)
spared number o pre [] n [] l q = refl
spared number o pre [] n (d ∷ ds) l q = absurd (omega (arith, q))
spared number o pre (c ∷ cs) n [] l q = absurd (omega (arith, q))
spared number o pre (c ∷ cs) n (d ∷ ds) l q =
    let seam : nth (pre ++ c ∷ cs) n ≡ c = subst (λ k. nth (pre ++ c ∷ cs) k ≡ c) l (get_or-append_seam pre c cs _) in
    let rest : list_any (walks.spares number o) (spares_at (pre ++ c ∷ cs) (open_from (n + 1) ds)) ≡ list_any (spares number o) (zip cs ds) =
    ap (λ all. list_any (walks.spares number o) (spares_at all (open_from (n + 1) ds))) (sym (append_assoc pre (c ∷ []) cs))
    ∙ spared number o (pre ++ c ∷ []) cs (n + 1) ds (length-append pre (c ∷ []) ∙ ap (λ k. k + 1) l) (omega (arith, q)) in
    spared_first number o (is_open d.report) n (pre ++ c ∷ cs) c (open_from (n + 1) ds) (list_any (spares number o) (zip cs ds)) seam rest

-- a test passes at a place of a command that was not reported exactly if it does at such a command of the zipped lists
any_first : (b : Bool) (f : ℕ → Bool) (n : ℕ) (ks : List ℕ) → list_any f (if b then n ∷ ks else ks) ≡ ((b && f n) || list_any f ks)
any_first true f n ks = refl
any_first false f n ks = refl

pub any_open : (p : IssuedCommand → Bool) (q : IssuedCommand × DiskCommand → Bool) → ((c : IssuedCommand) (d : DiskCommand) → (is_open d.report && p c) ≡ q (c, d)) →
    (pre cs : List IssuedCommand) (n : ℕ) (ds : List DiskCommand) → length pre ≡ n → length cs ≡ length ds →
    list_any (λ k. p (nth (pre ++ cs) k)) (open_from n ds) ≡ list_any q (zip cs ds)
any_open p q h pre [] n [] l e = refl
any_open p q h pre [] n (d ∷ ds) l e = absurd (omega (arith, e))
any_open p q h pre (c ∷ cs) n [] l e = absurd (omega (arith, e))
any_open p q h pre (c ∷ cs) n (d ∷ ds) l e =
    let seam : nth (pre ++ c ∷ cs) n ≡ c = subst (λ k. nth (pre ++ c ∷ cs) k ≡ c) l (get_or-append_seam pre c cs _) in
    let rest : list_any (λ k. p (nth (pre ++ c ∷ cs) k)) (open_from (n + 1) ds) ≡ list_any q (zip cs ds) =
    ap (λ all. list_any (λ k. p (nth all k)) (open_from (n + 1) ds)) (sym (append_assoc pre (c ∷ []) cs))
    ∙ any_open p q h (pre ++ c ∷ []) cs (n + 1) ds (length-append pre (c ∷ []) ∙ ap (λ k. k + 1) l) (omega (arith, e)) in
    any_first (is_open d.report) (λ k. p (nth (pre ++ c ∷ cs) k)) n (open_from (n + 1) ds)
    ∙ (λ i. (is_open d.report && p (seam i)) || rest i)
    ∙ ap (λ b. b || list_any q (zip cs ds)) (h c d)
