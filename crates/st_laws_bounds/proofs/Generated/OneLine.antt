-- The line of an event has no newline in it.
use Rattle.std.proofs.Common.{◌≡◌, ℕ, ◌+◌, ◌^◌, ◌<◌, ◌≤◌, Bool, true, false, cond, List, [], ◌∷◌, ◌++◌, inl, inr, length, get_or, refl, ap, ◌∙◌, arith}
use Rattle.std.specs.Prelude.{◌==◌, not, nat_lt}
use Rattle.std.specs.Fmt.{decimal}
use Rattle.std.specs.List.{list_all, AllByRecursion}
use Rattle.std.proofs.lemmas.Bool.Decides.{nat_tests}
use Rattle.std.proofs.lemmas.List.Folds.{list_all-append}
use Rattle.std.proofs.lemmas.Fmt.{digits_decimal}
use Rattle.st_base.specs.declared.ids.NodeId.{NodeId}
use Rattle.st_base.specs.declared.ids.NodeId.TheVariants as nodes
use Rattle.st_base.specs.declared.ids.FileId.{FileId}
use Rattle.st_base.specs.declared.ids.PageNo.{PageNo}
use Rattle.st_base.specs.declared.names.NameAsk.{NameAsk}
use Rattle.st_base.specs.declared.names.NameAsk.TheVariants as name_asks
use Rattle.st_messages.specs.declared.ask.Ask.{Ask}
use Rattle.st_messages.specs.declared.ask.Ask.TheVariants as asks
use Rattle.st_messages.specs.declared.event.Event.{Event}
use Rattle.st_messages.specs.declared.event.Event.TheVariants as events
use Rattle.st_schedule_words.specs.Words.{is_digit, is_visible, line_of, spaced, MOST_NUMBER}
use Rattle.st_schedule.specs.Grammar.{words, words_after, verb, ask_words, name_words, steps_words, in_full, are_equal, byte_of, file_text, node_text, after_text, result_text, IsWithin, IsNode, IsFile, IsPlace, IsName, IsAfter, FitsName, FitsAsk, Fits, least_step}
use Rattle.st_schedule_words.proofs.Numbers.{own}
use Rattle.st_lemmas.proofs.Tables.{and_true, and_both}

-- no byte of these is a newline
abbrev pub is_unbroken : List ℕ → Bool
is_unbroken w = list_all (λ b. not (b == 10)) w

abbrev Unbroken : List ℕ → Type 0
Unbroken w = is_unbroken w ≡ true

abbrev AllUnbroken : List (List ℕ) → Type 0
AllUnbroken ws = AllByRecursion Unbroken ws

append_unbroken : (v w : List ℕ) → Unbroken v → Unbroken w → Unbroken (v ++ w)
append_unbroken v w a b = list_all-append (λ b. not (b == 10)) v w ∙ and_both _ _ a b

spaced_unbroken : (ws : List (List ℕ)) → AllUnbroken ws → Unbroken (spaced ws)
spaced_unbroken [] h = refl
spaced_unbroken (w ∷ ws) h = append_unbroken w (spaced ws) h.0 (spaced_unbroken ws h.1)

line_unbroken : (w : List ℕ) (ws : List (List ℕ)) → Unbroken w → AllUnbroken ws → Unbroken (line_of (w ∷ ws))
line_unbroken w ws a b = append_unbroken w (spaced ws) a (spaced_unbroken ws b)

-- Words.
above_unbroken : (least : ℕ) → 11 ≤ least → (p : ℕ → Bool) → ((b : ℕ) → p b ≡ true → least ≤ b) → (w : List ℕ) → list_all p w ≡ true → Unbroken w
above_unbroken least high p f [] h = refl
above_unbroken least high p f (b ∷ bs) h =
    let z = and_true (p b) _ h in
    let l = f b z.0 in
    let other : (b == 10) ≡ false = grind (arith, nat_tests) in
    and_both (not (b == 10)) _ (ap not other) (above_unbroken least high p f bs z.1)

digit_high : (b : ℕ) → is_digit b ≡ true → 48 ≤ b
digit_high b h = Rattle.std.proofs.Common.leb-true 48 b (and_true _ _ h).0

visible_high : (b : ℕ) → is_visible b ≡ true → 33 ≤ b
visible_high b h = Rattle.std.proofs.Common.leb-true 33 b (and_true _ _ h).0

number_unbroken : (n : ℕ) → n ≤ MOST_NUMBER → Unbroken (decimal n)
number_unbroken n h = above_unbroken 48 (omega arith) is_digit digit_high (decimal n) (digits_decimal own n (omega (arith, h)))

name_unbroken : (w : List ℕ) → IsName w → Unbroken w
name_unbroken w h = above_unbroken 33 (omega arith) is_visible visible_high w (and_true _ _ (and_true (nat_lt 0 (length w)) _ h).1).1

node_unbroken : (n : NodeId) → IsNode n → Unbroken (node_text n)
node_unbroken (nodes.Client c) fits = number_unbroken c.0 (let z = fits.1 in omega (arith, z))
node_unbroken (nodes.Server s) fits = number_unbroken s.0 (let z = fits.1 in omega (arith, z))

file_unbroken : (s i : ℕ) → IsFile s i → Unbroken (file_text s i)
file_unbroken s i fits = let z = fits.0.1 in append_unbroken (decimal s) (58 ∷ decimal i) (number_unbroken s (omega (arith, z))) (number_unbroken i fits.1.1)

page_unbroken : (f : FileId) (p : PageNo) → IsPlace f p → Unbroken (decimal p.0)
page_unbroken f p fits = let z = fits.1 in number_unbroken p.0 (omega (arith, z))

after_unbroken : (after : List ℕ) → IsAfter after → Unbroken (after_text after)
after_unbroken [] fits = refl
after_unbroken (b ∷ bs) (inl e) = cc
after_unbroken (b ∷ bs) (inr fits) = name_unbroken (b ∷ bs) fits.0

result_unbroken : (ok : Bool) → Unbroken (result_text ok)
result_unbroken true = refl
result_unbroken false = refl

name_words_unbroken : (s : ℕ) (ask : NameAsk) → FitsName s ask → AllUnbroken (name_words s ask)
unfolding name_words
name_words_unbroken s (name_asks.Lookup dir name) f = (refl, (file_unbroken s dir f.0, (name_unbroken name f.1, tt)))
name_words_unbroken s (name_asks.Create dir name) f = (refl, (file_unbroken s dir f.0, (name_unbroken name f.1, tt)))
name_words_unbroken s (name_asks.Mkdir dir name) f = (refl, (file_unbroken s dir f.0, (name_unbroken name f.1, tt)))
name_words_unbroken s (name_asks.Remove dir name ino) f = (refl, (file_unbroken s dir f.0, (name_unbroken name f.1, (number_unbroken ino f.2, tt))))
name_words_unbroken s (name_asks.Rename dir name dir2 name2) f =
    (refl, (file_unbroken s dir f.0, (name_unbroken name f.1, (number_unbroken dir2 f.2.1, (name_unbroken name2 f.3, tt)))))
name_words_unbroken s (name_asks.List dir after) f = (refl, (file_unbroken s dir f.0, (after_unbroken after f.1, tt)))

ask_unbroken : (form : ℕ) (ask : Ask) → FitsAsk form ask → AllUnbroken (ask_words ask)
unfolding ask_words
ask_unbroken form (asks.Write g p bytes) f =
    let z = f.1.0 in (refl, (file_unbroken g.server.0 g.ino f.0.0, (page_unbroken g p f.0, (number_unbroken (byte_of bytes) (omega (arith, z)), tt))))
ask_unbroken form (asks.Read g p) f = (refl, (file_unbroken g.server.0 g.ino f.0, (page_unbroken g p f, tt)))
ask_unbroken form (asks.Sync g) f = (refl, (file_unbroken g.server.0 g.ino f, tt))
ask_unbroken form (asks.Cut g p) f = (refl, (file_unbroken g.server.0 g.ino f.0, (page_unbroken g p f, tt)))
ask_unbroken form (asks.Name s ask) f = name_words_unbroken s.0 ask f
ask_unbroken form (asks.Patch g p at bytes) f =
    let z = f.1.2 in
    let y = f.1.3 in (
      refl,
      (
        file_unbroken g.server.0 g.ino f.0.0,
        (page_unbroken g p f.0, (number_unbroken at (omega (arith, z)), (number_unbroken (length bytes) (omega (arith, z)), (number_unbroken (byte_of bytes) (omega (arith, y)), tt)))),
      ),
    )

-- Advances.
full_unbroken : (least : ℕ) (steps : List ℕ) → AllByRecursion (IsWithin least MOST_NUMBER) steps → AllUnbroken (in_full steps)
full_unbroken least [] all = tt
full_unbroken least (d ∷ ds) all = (number_unbroken d all.0.1, full_unbroken least ds all.1)

one_unbroken : (least : ℕ) (steps : List ℕ) → AllByRecursion (IsWithin least MOST_NUMBER) steps → AllUnbroken (decimal (get_or steps 0 0) ∷ [])
one_unbroken least [] all = (number_unbroken 0 (omega arith), tt)
one_unbroken least (d ∷ ds) all = (number_unbroken d all.0.1, tt)

one_of : (P : List (List ℕ) → Type 0) (b : Bool) (x y : List (List ℕ)) → P x → P y → P (cond b x y)
one_of P true x y h k = h
one_of P false x y h k = k

steps_unbroken : (least : ℕ) (steps : List ℕ) → AllByRecursion (IsWithin least MOST_NUMBER) steps → AllUnbroken (steps_words steps)
steps_unbroken least steps all = one_of AllUnbroken (are_equal steps) _ _ (one_unbroken least steps all) (full_unbroken least steps all)

-- Events.
after_all_unbroken : (form count : ℕ) (e : Event) → Fits form count e → AllUnbroken (words_after e)
unfolding words_after
after_all_unbroken form count (events.Tick n) f = (node_unbroken n f, tt)
after_all_unbroken form count (events.App c ask) f = let z = f.0.1 in (number_unbroken c.0 (omega (arith, z)), ask_unbroken form ask f.1)
after_all_unbroken form count (events.Deliver k) f = (number_unbroken k f.1, tt)
after_all_unbroken form count (events.Lose k) f = (number_unbroken k f.1, tt)
after_all_unbroken form count (events.Cut n m) f = (node_unbroken n f.0, (node_unbroken m f.1, tt))
after_all_unbroken form count (events.Heal n m) f = (node_unbroken n f.0, (node_unbroken m f.1, tt))
after_all_unbroken form count (events.Advance steps) f = steps_unbroken (least_step form) steps f.2
after_all_unbroken form count (events.Effect k) f = (number_unbroken k f.1, tt)
after_all_unbroken form count (events.Report k ok) f = (number_unbroken k f.1, (result_unbroken ok, tt))
after_all_unbroken form count (events.Crash n) f = (node_unbroken n f, tt)
after_all_unbroken form count (events.Start n) f = (node_unbroken n f, tt)

verb_unbroken : (e : Event) → Unbroken (verb e)
verb_unbroken (events.Tick n) = refl
verb_unbroken (events.App c ask) = refl
verb_unbroken (events.Deliver k) = refl
verb_unbroken (events.Lose k) = refl
verb_unbroken (events.Cut n m) = refl
verb_unbroken (events.Heal n m) = refl
verb_unbroken (events.Advance steps) = refl
verb_unbroken (events.Effect k) = refl
verb_unbroken (events.Report k ok) = refl
verb_unbroken (events.Crash n) = refl
verb_unbroken (events.Start n) = refl

pub event_unbroken : (form count : ℕ) (e : Event) → Fits form count e → is_unbroken (line_of (words e)) ≡ true
event_unbroken form count e f = line_unbroken (verb e) (words_after e) (verb_unbroken e) (after_all_unbroken form count e f)
