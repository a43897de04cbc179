-- The words of an event have no space in them and fit into a line, so a line of them has these words.
use Rattle.std.proofs.Common.{◌≡◌, ℕ, ◌+◌, ◌*◌, ◌^◌, ◌<◌, ◌≤◌, inl, inr, Bool, true, false, cond, List, [], ◌∷◌, ◌++◌, length, get_or, refl, ap, arith}
use Rattle.std.proofs.lemmas.Bool.{and_parts}
use Rattle.std.specs.Prelude.{◌==◌, ◌&&◌, not, nat_lt, nat_le}
use Rattle.std.specs.Fmt.{decimal}
use Rattle.std.specs.List.{list_all, AllByRecursion}
use Rattle.std.proofs.lemmas.Bool.Decides.{nat_tests}
use Rattle.std.proofs.lemmas.List.{length-append}
use Rattle.std.proofs.lemmas.List.Folds.{list_all-append}
use Rattle.std.proofs.lemmas.Fmt.{digits_decimal, length-decimal-le}
use Rattle.st_base.specs.declared.ids.FileId.{FileId}
use Rattle.st_base.specs.declared.ids.PageNo.{PageNo}
use Rattle.st_base.specs.declared.ids.NodeId.{NodeId}
use Rattle.st_base.specs.declared.ids.NodeId.TheVariants as nodes
use Rattle.st_base.specs.declared.names.NameAsk.{NameAsk}
use Rattle.st_base.specs.declared.names.NameAsk.TheVariants as name_asks
use Rattle.st_messages.specs.declared.ask.Ask.{Ask}
use Rattle.st_messages.specs.declared.ask.Ask.TheVariants as asks
use Rattle.st_messages.specs.declared.event.Event.{Event}
use Rattle.st_messages.specs.declared.event.Event.TheVariants as events
use Rattle.st_schedule_words.specs.Words.{is_digit, is_visible, split, line_of, spaced, room, MOST_NODE, MOST_NUMBER}
use Rattle.st_schedule.specs.Grammar.{words, words_after, verb, ask_words, name_words, steps_words, in_full, are_equal, byte_of, file_text, file_name, node_text, after_text, result_text, link_words, IsWithin, IsNode, IsFile, IsPlace, IsName, IsAfter, FitsName, FitsAsk, Fits, least_step, MOST_PAGE}
use Rattle.st_schedule_words.proofs.Numbers.{own}

abbrev pub is_unspaced : List ℕ → Bool
is_unspaced w = list_all (λ b. not (b == 32)) w

-- a word without a space, of at most this number of bytes
pub record Fills (most : ℕ) (w : List ℕ) : Type 0 where
  pub unspaced : is_unspaced w ≡ true
  pub short : length w ≤ most

-- words without spaces, that take at most this number of bytes with a space before each
pub record Take (most : ℕ) (ws : List (List ℕ)) : Type 0 where
  pub unspaced : AllByRecursion (λ w. is_unspaced w ≡ true) ws
  pub short : room ws ≤ most

-- Lines of words.

split_word : (w : List ℕ) (rest : List ℕ) (ws : List (List ℕ)) → is_unspaced w ≡ true → split rest ≡ [] ∷ ws → split (w ++ rest) ≡ w ∷ ws
split_word [] rest ws h e = e
split_word (b ∷ bs) rest ws h e =
    let p : (not (b == 32) ≡ true) × (is_unspaced bs ≡ true) = and_parts _ _ h in
    let k = split_word bs rest ws p.1 e in
    let other : (b == 32) ≡ false = grind (arith, nat_tests) in
    rw (other, k) refl

split_spaced : (ws : List (List ℕ)) → AllByRecursion (λ w. is_unspaced w ≡ true) ws → split (spaced ws) ≡ [] ∷ ws
split_spaced [] h = refl
split_spaced (w ∷ ws) h = ap (λ (vs : List (List ℕ)). [] ∷ vs) (split_word w (spaced ws) ws h.0 (split_spaced ws h.1))

pub line_has_words : (w : List ℕ) (ws : List (List ℕ)) → AllByRecursion (λ w. is_unspaced w ≡ true) (w ∷ ws) → split (line_of (w ∷ ws)) ≡ w ∷ ws
line_has_words w ws h = split_word w (spaced ws) ws h.0 (split_spaced ws h.1)

length-spaced : (ws : List (List ℕ)) → length (spaced ws) ≡ room ws
length-spaced [] = refl
length-spaced (w ∷ ws) = let e = length-spaced ws in omega (arith, length-append w (spaced ws))

pub length-line : (w : List ℕ) (ws : List (List ℕ)) → length (line_of (w ∷ ws)) + 1 ≡ room (w ∷ ws)
length-line w ws = let e = length-spaced ws in omega (arith, length-append w (spaced ws))

-- Words.

nothing : Take 0 []
nothing = record { unspaced = tt; short = omega arith }

then : (m n : ℕ) (w : List ℕ) (ws : List (List ℕ)) → Fills m w → Take n ws → Take (m + n + 1) (w ∷ ws)
then m n w ws first rest = record { unspaced = (first.unspaced, rest.unspaced); short = let a = first.short in let b = rest.short in omega arith }

wider : (m n : ℕ) (ws : List (List ℕ)) → Take m ws → m ≤ n → Take n ws
wider m n ws h le = record { unspaced = h.unspaced; short = let a = h.short in omega arith }

digits_unspaced : (ds : List ℕ) → list_all is_digit ds ≡ true → is_unspaced ds ≡ true
digits_unspaced [] h = refl
digits_unspaced (d ∷ ds) h =
    let p : (is_digit d ≡ true) × (list_all is_digit ds ≡ true) = and_parts _ _ h in
    let k = digits_unspaced ds p.1 in
    let other : (d == 32) ≡ false = grind (arith, nat_tests) in
    rw (other, k) refl

visible_unspaced : (w : List ℕ) → list_all is_visible w ≡ true → is_unspaced w ≡ true
visible_unspaced [] h = refl
visible_unspaced (b ∷ bs) h =
    let p : (is_visible b ≡ true) × (list_all is_visible bs ≡ true) = and_parts _ _ h in
    let k = visible_unspaced bs p.1 in
    let other : (b == 32) ≡ false = grind (arith, nat_tests) in
    rw (other, k) refl

number_fills : (k n : ℕ) → 0 < k → n < 10 ^ k → n < 2 ^ 64 → Fills k (decimal n)
number_fills k n some small fits = record { unspaced = digits_unspaced (decimal n) (digits_decimal own n fits); short = length-decimal-le k n some small fits }

pub long_number : (n : ℕ) → n ≤ MOST_NUMBER → Fills 10 (decimal n)
long_number n h = number_fills 10 n (omega arith) (omega arith) (omega arith)

name_fills : (w : List ℕ) → IsName w → Fills 100 w
name_fills w h =
    let p : (nat_lt 0 (length w) ≡ true) × ((nat_le (length w) 100 && list_all is_visible w) ≡ true) = and_parts _ _ h in
    let q : (nat_le (length w) 100 ≡ true) × (list_all is_visible w ≡ true) = and_parts _ _ p.1 in
    record { unspaced = visible_unspaced w q.1; short = let s = q.0 in grind (arith, nat_tests) }

node_number : (b n : ℕ) → (b == 32) ≡ false → IsWithin 1 MOST_NODE n → Fills 3 (b ∷ decimal n)
node_number b n other fits =
    let d = number_fills 2 n (omega arith) (omega arith) (omega arith) in
    record { unspaced = rw (other, d.unspaced) refl; short = let s = d.short in omega arith }

pub node_fills : (n : NodeId) → IsNode n → Fills 3 (node_text n)
node_fills (nodes.Client c) fits = node_number 99 c.0 refl fits
node_fills (nodes.Server s) fits = node_number 115 s.0 refl fits

file_fills : (s i : ℕ) → IsFile s i → Fills 16 (file_text s i)
file_fills s i fits =
    let a = number_fills 5 s (omega arith) (omega arith) (omega arith) in
    let b = long_number i fits.1.1 in
    record {
      unspaced = rw (list_all-append (λ b. not (b == 32)) (decimal s) (58 ∷ decimal i), a.unspaced, b.unspaced) refl;
      short = let x = a.short in let y = b.short in omega (arith, length-append (decimal s) (58 ∷ decimal i));
    }

after_fills : (after : List ℕ) → IsAfter after → Fills 100 (after_text after)
after_fills [] fits = record { unspaced = refl; short = omega arith }
after_fills (b ∷ bs) (inl e) = absurd (cc)
after_fills (b ∷ bs) (inr fits) = name_fills (b ∷ bs) fits.0

result_fills : (ok : Bool) → Fills 4 (result_text ok)
result_fills true = record { unspaced = refl; short = omega arith }
result_fills false = record { unspaced = refl; short = omega arith }

-- a word of fixed text
text_fills : (n : ℕ) (w : List ℕ) → is_unspaced w ≡ true → length w ≤ n → Fills n w
text_fills n w h k = record { unspaced = h; short = k }

page_fills : (n : ℕ) → n ≤ MOST_PAGE → Fills 7 (decimal n)
page_fills n h = number_fills 7 n (omega arith) (omega arith) (omega arith)

byte_fills : (n : ℕ) → n ≤ 255 → Fills 3 (decimal n)
byte_fills n h = number_fills 3 n (omega arith) (omega arith) (omega arith)

range_fills : (n : ℕ) → n ≤ 4096 → Fills 4 (decimal n)
range_fills n h = number_fills 4 n (omega arith) (omega arith) (omega arith)

place_then : (n : ℕ) (f : FileId) (p : PageNo) (ws : List (List ℕ)) → IsPlace f p → Take n ws → Take (n + 25) (file_name f ∷ decimal p.0 ∷ ws)
place_then n f p ws fits rest =
    wider _ _ _ (then 16 (7 + n + 1) (file_name f) (decimal p.0 ∷ ws) (file_fills f.server.0 f.ino fits.0) (then 7 n (decimal p.0) ws (page_fills p.0 fits.1) rest)) (omega arith)

entry_then : (n : ℕ) (v : List ℕ) (s dir : ℕ) (name : List ℕ) (ws : List (List ℕ)) → Fills 6 v → IsFile s dir → IsName name → Take n ws → Take (n + 125) (v ∷ file_text s dir ∷ name ∷ ws)
entry_then n v s dir name ws word file fits rest =
    wider _ _ _ (then 6 (16 + (100 + n + 1) + 1) v (file_text s dir ∷ name ∷ ws) word
    (then 16 (100 + n + 1) (file_text s dir) (name ∷ ws) (file_fills s dir file) (then 100 n name ws (name_fills name fits) rest))) (omega arith)

name_take : (s : ℕ) (ask : NameAsk) → FitsName s ask → Take 240 (name_words s ask)
unfolding name_words
name_take s (name_asks.Lookup dir name) fits = wider _ _ _ (entry_then 0 _ s dir name [] (text_fills 6 _ refl (omega arith)) fits.0 fits.1 nothing) (omega arith)
name_take s (name_asks.Create dir name) fits = wider _ _ _ (entry_then 0 _ s dir name [] (text_fills 6 _ refl (omega arith)) fits.0 fits.1 nothing) (omega arith)
name_take s (name_asks.Mkdir dir name) fits = wider _ _ _ (entry_then 0 _ s dir name [] (text_fills 6 _ refl (omega arith)) fits.0 fits.1 nothing) (omega arith)
name_take s (name_asks.Remove dir name ino) fits =
    wider _ _ _ (entry_then 11 _ s dir name _ (text_fills 6 _ refl (omega arith)) fits.0 fits.1 (then 10 0 (decimal ino) [] (long_number ino fits.2) nothing)) (omega arith)
name_take s (name_asks.Rename dir name dir2 name2) fits =
    wider _ _ _ (entry_then 112 _ s dir name _ (text_fills 6 _ refl (omega arith)) fits.0 fits.1
    (then 10 101 (decimal dir2) _ (long_number dir2 fits.2.1) (then 100 0 name2 [] (name_fills name2 fits.3) nothing))) (omega arith)
name_take s (name_asks.List dir after) fits =
    wider _ _ _ (then 4 118 _ _ (text_fills 4 _ refl (omega arith)) (then 16 101 (file_text s dir) _ (file_fills s dir fits.0) (then 100 0 (after_text after) [] (after_fills after fits.1) nothing))) (omega arith)

ask_take : (form : ℕ) (ask : Ask) → FitsAsk form ask → Take 240 (ask_words ask)
unfolding ask_words
ask_take form (asks.Write f p bytes) fits =
    wider _ _ _ (then 5 29 _ _ (text_fills 5 _ refl (omega arith)) (place_then 4 f p _ fits.0 (then 3 0 _ [] (byte_fills (byte_of bytes) fits.1.0) nothing))) (omega arith)
ask_take form (asks.Read f p) fits = wider _ _ _ (then 4 25 _ _ (text_fills 4 _ refl (omega arith)) (place_then 0 f p [] fits nothing)) (omega arith)
ask_take form (asks.Sync f) fits = wider _ _ _ (then 4 17 _ _ (text_fills 4 _ refl (omega arith)) (then 16 0 (file_name f) [] (file_fills f.server.0 f.ino fits) nothing)) (omega arith)
ask_take form (asks.Cut f p) fits = wider _ _ _ (then 3 25 _ _ (text_fills 3 _ refl (omega arith)) (place_then 0 f p [] fits nothing)) (omega arith)
ask_take form (asks.Name s ask) fits = name_take s.0 ask fits
ask_take form (asks.Patch f p at bytes) fits =
    wider _ _ _ (then 5 39 _ _ (text_fills 5 _ refl (omega arith)) (place_then 14 f p _ fits.0
    (then 4 9 (decimal at) _ (range_fills at (omega arith)) (then 4 4 (decimal (length bytes)) _ (range_fills (length bytes) (omega arith)) (then 3 0 _ [] (byte_fills (byte_of bytes) fits.1.3) nothing))))) (omega arith)

steps_take : (least : ℕ) (steps : List ℕ) → AllByRecursion (IsWithin least MOST_NUMBER) steps → Take (11 * length steps) (in_full steps)
steps_take least [] all = nothing
steps_take least (d ∷ ds) all = wider _ _ _ (then 10 (11 * length ds) (decimal d) (in_full ds) (long_number d all.0.1) (steps_take least ds all.1)) (omega arith)

one_take : (least : ℕ) (steps : List ℕ) → 1 ≤ length steps → AllByRecursion (IsWithin least MOST_NUMBER) steps → Take 11 (decimal (get_or steps 0 0) ∷ [])
one_take least [] some all = absurd (omega arith)
one_take least (d ∷ ds) some all = then 10 0 (decimal d) [] (long_number d all.0.1) nothing

chosen : (b : Bool) (x y : List (List ℕ)) (P : List (List ℕ) → Type 0) → P x → P y → P (cond b x y)
chosen true x y P h k = h
chosen false x y P h k = k

steps_words_take : (least : ℕ) (steps : List ℕ) → 1 ≤ length steps → length steps ≤ 20 → AllByRecursion (IsWithin least MOST_NUMBER) steps → Take 240 (steps_words steps)
steps_words_take least steps some few all =
    chosen (are_equal steps) _ _ (Take 240) (wider _ _ _ (one_take least steps some all) (omega arith)) (wider _ _ _ (steps_take least steps all) (omega arith))

node_take : (n : NodeId) → IsNode n → Take 240 (node_text n ∷ [])
node_take n fits = wider _ _ _ (then 3 0 _ [] (node_fills n fits) nothing) (omega arith)

take_of_a_number : (k : ℕ) → IsWithin 1 MOST_NUMBER k → Take 240 (decimal k ∷ [])
take_of_a_number k fits = wider _ _ _ (then 10 0 _ [] (long_number k fits.1) nothing) (omega arith)

link_take : (n m : NodeId) → IsNode n → IsNode m → Take 240 (link_words n m)
link_take n m from to = wider _ _ _ (then 3 4 _ _ (node_fills n from) (then 3 0 _ [] (node_fills m to) nothing)) (omega arith)

after_take : (form count : ℕ) (e : Event) → Fits form count e → count ≤ 20 → Take 245 (words_after e)
unfolding words_after
after_take form count (events.Tick n) fits few = wider _ _ _ (node_take n fits) (omega arith)
after_take form count (events.App c ask) fits few = wider _ _ _ (then 3 240 _ _ (node_number 99 c.0 refl fits.0) (ask_take form ask fits.1)) (omega arith)
after_take form count (events.Deliver k) fits few = wider _ _ _ (take_of_a_number k fits) (omega arith)
after_take form count (events.Lose k) fits few = wider _ _ _ (take_of_a_number k fits) (omega arith)
after_take form count (events.Cut n m) fits few = wider _ _ _ (link_take n m fits.0 fits.1) (omega arith)
after_take form count (events.Heal n m) fits few = wider _ _ _ (link_take n m fits.0 fits.1) (omega arith)
after_take form count (events.Advance steps) fits few = wider _ _ _ (steps_words_take (least_step form) steps (omega arith) (omega arith) fits.2) (omega arith)
after_take form count (events.Effect k) fits few = wider _ _ _ (take_of_a_number k fits) (omega arith)
after_take form count (events.Report k ok) fits few = wider _ _ _ (then 10 5 _ _ (long_number k fits.1) (then 4 0 _ [] (result_fills ok) nothing)) (omega arith)
after_take form count (events.Crash n) fits few = wider _ _ _ (node_take n fits) (omega arith)
after_take form count (events.Start n) fits few = wider _ _ _ (node_take n fits) (omega arith)

verb_fills : (e : Event) → Fills 7 (verb e)
verb_fills (events.Tick n) = text_fills 7 _ refl (omega arith)
verb_fills (events.App c ask) = text_fills 7 _ refl (omega arith)
verb_fills (events.Deliver k) = text_fills 7 _ refl (omega arith)
verb_fills (events.Lose k) = text_fills 7 _ refl (omega arith)
verb_fills (events.Cut n m) = text_fills 7 _ refl (omega arith)
verb_fills (events.Heal n m) = text_fills 7 _ refl (omega arith)
verb_fills (events.Advance steps) = text_fills 7 _ refl (omega arith)
verb_fills (events.Effect k) = text_fills 7 _ refl (omega arith)
verb_fills (events.Report k ok) = text_fills 7 _ refl (omega arith)
verb_fills (events.Crash n) = text_fills 7 _ refl (omega arith)
verb_fills (events.Start n) = text_fills 7 _ refl (omega arith)

pub words_take : (form count : ℕ) (e : Event) → Fits form count e → count ≤ 20 → Take 253 (words e)
words_take form count e fits few = then 7 245 (verb e) (words_after e) (verb_fills e) (after_take form count e fits few)
