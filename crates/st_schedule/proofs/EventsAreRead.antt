-- What is written of an event is read as this event.
use Rattle.std.proofs.Common.{◌≡◌, ℕ, ◌+◌, ◌-◌, ◌≤◌, ◌⊎◌, inl, inr, Bool, true, false, cond, List, [], ◌∷◌, length, replicate, get_or, refl, sym, ◌∙◌, ap, subst, arith}
use Rattle.std.specs.Prelude.{◌==◌, ◌&&◌, Option, Some, Result, Ok, Err, codes}
use Rattle.std.specs.Fmt.{decimal}
use Rattle.std.specs.Str.{bytes_eq}
use Rattle.std.specs.List.{list_all, AllByRecursion}
use Rattle.std.proofs.lemmas.Bool.Decides.{nat_tests}
use Rattle.st_base.specs.declared.ids.ClientId.{ClientId}
use Rattle.st_base.specs.declared.ids.ServerId.{ServerId}
use Rattle.st_base.specs.declared.ids.FileId.{FileId}
use Rattle.st_base.specs.declared.ids.PageNo.{PageNo}
use Rattle.st_base.specs.declared.ids.NodeId.{NodeId}
use Rattle.st_base.specs.declared.names.NameAsk.{NameAsk}
use Rattle.st_base.specs.declared.names.NameAsk.TheVariants as name_asks
use Rattle.st_messages.specs.declared.ask.Ask.{Ask}
use Rattle.st_messages.specs.declared.ask.Ask.TheVariants as asks
use Rattle.st_messages.specs.declared.event.Event.{Event}
use Rattle.st_messages.specs.declared.event.Event.TheVariants as events
use Rattle.st_schedule.specs.declared.fault.Fault.{Fault}
use Rattle.st_schedule.specs.declared.verb.Verb.{Verb}
use Rattle.st_schedule.specs.declared.verb.Verb.TheVariants as verbs
use Rattle.st_schedule_words.specs.Words.{MOST_NODE, MOST_NUMBER}
use Rattle.st_schedule.specs.Grammar.{words, words_after, ask_words, name_words, steps_words, in_full, are_equal, byte_of, file_name, node_text, client_text, after_text, result_text, link_words, IsWithin, IsNode, IsFile, IsPlace, IsName, IsAfter, IsEven, IsPatch, FitsName, FitsAsk, Fits, AreSteps, least_step, AreFull, Spells}
use Rattle.st_schedule.specs.Parser.{◌>>=◌, Read, write_at, read_at, sync_at, cut_at, range_at, patch_at, lookup_at, create_at, mkdir_at, remove_at, rename_at, list_at, asked_at, ask_verb_at, app_at, steps_at, steps_of, advance_at, link_at, cut_link_at, heal_at, tick_at, crash_at, start_at, deliver_at, lose_at, effect_at, report_at, event_at, verb_of, verb_in, event_of, line_event, ends}
use Rattle.st_schedule.proofs.ValuesAreRead.{number_again, node_again, client_again, file_again, name_again, after_again, result_again, place_again, entry_again}

-- Asks.

-- the ask of the words after the client
abbrev pub ask_of : ℕ → List (List ℕ) → Read Ask
ask_of form ws = ask_verb_at form ws >>= λ v. asked_at v.0 v.1

write_again : (form : ℕ) (f : FileId) (p : PageNo) (bytes : List ℕ) → IsPlace f p → IsEven bytes → ask_of form (ask_words (asks.Write f p bytes)) ≡ Ok (asks.Write f p bytes, [])
unfolding ask_words ask_verb_at asked_at write_at
write_again form f p bytes place even =
    rw (place_again f p (decimal (byte_of bytes) ∷ []) place, number_again 0 255 (byte_of bytes) [] (omega arith) (omega arith) even.0)
    (ap (λ (bs : List ℕ). Ok (asks.Write f p bs, [])) (sym even.1))

read_again : (form : ℕ) (f : FileId) (p : PageNo) → IsPlace f p → ask_of form (ask_words (asks.Read f p)) ≡ Ok (asks.Read f p, [])
unfolding ask_words ask_verb_at asked_at read_at
read_again form f p place = rw (place_again f p [] place) refl

sync_again : (form : ℕ) (f : FileId) → IsFile f.server.0 f.ino → ask_of form (ask_words (asks.Sync f)) ≡ Ok (asks.Sync f, [])
unfolding ask_words ask_verb_at asked_at sync_at
sync_again form f file = rw (file_again f.server.0 f.ino [] file) refl

cut_again : (form : ℕ) (f : FileId) (p : PageNo) → IsPlace f p → ask_of form (ask_words (asks.Cut f p)) ≡ Ok (asks.Cut f p, [])
unfolding ask_words ask_verb_at asked_at cut_at
cut_again form f p place = rw (place_again f p [] place) refl

range_again : (at len : ℕ) (ws : List (List ℕ)) → 1 ≤ len → at + len ≤ 4096 → range_at (decimal at ∷ decimal len ∷ ws) ≡ Ok ((at, len), ws)
unfolding range_at
range_again at len ws some inside =
    rw (number_again 0 4095 at (decimal len ∷ ws) (omega arith) (omega arith) (omega arith), number_again 1 (4096 - at) len ws (omega arith) some (omega arith)) refl

patch_words : (f : FileId) (p : PageNo) (at : ℕ) (bytes : List ℕ) → IsPlace f p → IsPatch 2 at bytes →
    patch_at (file_name f ∷ decimal p.0 ∷ decimal at ∷ decimal (length bytes) ∷ decimal (byte_of bytes) ∷ []) ≡ Ok (asks.Patch f p at bytes, [])
unfolding patch_at
patch_words f p at bytes place fits =
    rw (
      place_again f p (decimal at ∷ decimal (length bytes) ∷ decimal (byte_of bytes) ∷ []) place,
      range_again at (length bytes) (decimal (byte_of bytes) ∷ []) fits.1 fits.2,
      number_again 0 255 (byte_of bytes) [] (omega arith) (omega arith) fits.3,
    )
    (ap (λ (bs : List ℕ). Ok (asks.Patch f p at bs, [])) (sym fits.4))

patch_second : (f : FileId) (p : PageNo) (at : ℕ) (bytes : List ℕ) → IsPlace f p → IsPatch 2 at bytes → ask_of 2 (ask_words (asks.Patch f p at bytes)) ≡ Ok (asks.Patch f p at bytes, [])
unfolding ask_words ask_verb_at asked_at
patch_second f p at bytes place fits = patch_words f p at bytes place fits

patch_again : (form : ℕ) (f : FileId) (p : PageNo) (at : ℕ) (bytes : List ℕ) → IsPlace f p → IsPatch form at bytes → ask_of form (ask_words (asks.Patch f p at bytes)) ≡ Ok (asks.Patch f p at bytes, [])
patch_again form f p at bytes place fits =
    subst (λ n. ask_of n (ask_words (asks.Patch f p at bytes)) ≡ Ok (asks.Patch f p at bytes, [])) (sym fits.0) (patch_second f p at bytes place (refl, fits.1, fits.2, fits.3, fits.4))

and_false : (b : Bool) → (b && false) ≡ false
and_false true = refl
and_false false = refl

lookup_again : (form s dir : ℕ) (name : List ℕ) → IsFile s dir → IsName name → ask_of form (name_words s (name_asks.Lookup dir name)) ≡ Ok (asks.Name (record { 0 = s }) (name_asks.Lookup dir name), [])
unfolding name_words ask_verb_at asked_at lookup_at
lookup_again form s dir name file fits = rw (and_false (form == 2), entry_again s dir name [] file fits) refl

create_again : (form s dir : ℕ) (name : List ℕ) → IsFile s dir → IsName name → ask_of form (name_words s (name_asks.Create dir name)) ≡ Ok (asks.Name (record { 0 = s }) (name_asks.Create dir name), [])
unfolding name_words ask_verb_at asked_at create_at
create_again form s dir name file fits = rw (and_false (form == 2), entry_again s dir name [] file fits) refl

mkdir_again : (form s dir : ℕ) (name : List ℕ) → IsFile s dir → IsName name → ask_of form (name_words s (name_asks.Mkdir dir name)) ≡ Ok (asks.Name (record { 0 = s }) (name_asks.Mkdir dir name), [])
unfolding name_words ask_verb_at asked_at mkdir_at
mkdir_again form s dir name file fits = rw (and_false (form == 2), entry_again s dir name [] file fits) refl

remove_again : (form s dir : ℕ) (name : List ℕ) (ino : ℕ) → IsFile s dir → IsName name → ino ≤ MOST_NUMBER →
    ask_of form (name_words s (name_asks.Remove dir name ino)) ≡ Ok (asks.Name (record { 0 = s }) (name_asks.Remove dir name ino), [])
unfolding name_words ask_verb_at asked_at remove_at
remove_again form s dir name ino file fits small =
    rw (and_false (form == 2), entry_again s dir name (decimal ino ∷ []) file fits, number_again 0 MOST_NUMBER ino [] (omega arith) (omega arith) small) refl

rename_again : (form s dir : ℕ) (name : List ℕ) (dir2 : ℕ) (name2 : List ℕ) → IsFile s dir → IsName name → IsWithin 1 MOST_NUMBER dir2 → IsName name2 →
    ask_of form (name_words s (name_asks.Rename dir name dir2 name2)) ≡ Ok (asks.Name (record { 0 = s }) (name_asks.Rename dir name dir2 name2), [])
unfolding name_words ask_verb_at asked_at rename_at
rename_again form s dir name dir2 name2 file fits range fits2 =
    rw (and_false (form == 2), entry_again s dir name (decimal dir2 ∷ name2 ∷ []) file fits, number_again 1 MOST_NUMBER dir2 (name2 ∷ []) (omega arith) range.0 range.1, name_again name2 [] fits2) refl

list_again : (form s dir : ℕ) (after : List ℕ) → IsFile s dir → IsAfter after → ask_of form (name_words s (name_asks.List dir after)) ≡ Ok (asks.Name (record { 0 = s }) (name_asks.List dir after), [])
unfolding name_words ask_verb_at asked_at list_at
list_again form s dir after file fits = rw (and_false (form == 2), file_again s dir (after_text after ∷ []) file, after_again after [] fits) refl

named_again : (form : ℕ) (s : ServerId) (ask : NameAsk) → FitsName s.0 ask → ask_of form (name_words s.0 ask) ≡ Ok (asks.Name s ask, [])
named_again form s (name_asks.Lookup dir name) fits = lookup_again form s.0 dir name fits.0 fits.1
named_again form s (name_asks.Create dir name) fits = create_again form s.0 dir name fits.0 fits.1
named_again form s (name_asks.Mkdir dir name) fits = mkdir_again form s.0 dir name fits.0 fits.1
named_again form s (name_asks.Remove dir name ino) fits = remove_again form s.0 dir name ino fits.0 fits.1 fits.2
named_again form s (name_asks.Rename dir name dir2 name2) fits = rename_again form s.0 dir name dir2 name2 fits.0 fits.1 fits.2 fits.3
named_again form s (name_asks.List dir after) fits = list_again form s.0 dir after fits.0 fits.1

name_words_again : (form : ℕ) (s : ServerId) (ask : NameAsk) → FitsName s.0 ask → ask_of form (ask_words (asks.Name s ask)) ≡ Ok (asks.Name s ask, [])
unfolding ask_words
name_words_again form s ask fits = named_again form s ask fits

pub ask_again : (form : ℕ) (ask : Ask) → FitsAsk form ask → ask_of form (ask_words ask) ≡ Ok (ask, [])
ask_again form (asks.Write f p bytes) fits = write_again form f p bytes fits.0 fits.1
ask_again form (asks.Read f p) fits = read_again form f p fits
ask_again form (asks.Sync f) fits = sync_again form f fits
ask_again form (asks.Cut f p) fits = cut_again form f p fits
ask_again form (asks.Name s ask) fits = name_words_again form s ask fits
ask_again form (asks.Patch f p at bytes) fits = patch_again form f p at bytes fits.0 fits.1

-- a step after two others
bind_of : {A B C : Type 0} (r : Result A Fault) (f : A → Result B Fault) (g : B → Result C Fault) (y : B) → (r >>= f) ≡ Ok y → (r >>= λ x. f x >>= g) ≡ g y
bind_of (Ok x) f g y e = ap (λ q. q >>= g) e
bind_of (Err k) f g y e = absurd (cc)

app_words : (form : ℕ) (c : ClientId) (ws : List (List ℕ)) (ask : Ask) → IsWithin 1 MOST_NODE c.0 → ask_of form ws ≡ Ok (ask, []) → app_at form (client_text c ∷ ws) ≡ Ok (events.App c ask, [])
unfolding app_at
app_words form c ws ask fits e = rw (client_again c ws fits) (bind_of (ask_verb_at form ws) (λ v. asked_at v.0 v.1) (λ a. Ok (events.App c a.0, a.1)) (ask, []) e)

-- Advances.

steps_again : (least : ℕ) (steps : List ℕ) → AllByRecursion (IsWithin least MOST_NUMBER) steps → steps_at least (length steps) (in_full steps) ≡ Ok (steps, [])
unfolding steps_at
steps_again least [] all = refl
steps_again least (d ∷ ds) all = rw (number_again least MOST_NUMBER d (in_full ds) (omega arith) all.0.0 all.0.1, steps_again least ds all.1) refl

-- a list whose elements are all this one
all_same : (d : ℕ) (steps : List ℕ) → list_all (λ e. e == d) steps ≡ true → replicate (length steps) d ≡ steps
all_same d [] h = refl
all_same d (e ∷ es) h =
    let one : e ≡ d = grind (arith, nat_tests) in
    let rest : list_all (λ e. e == d) es ≡ true = grind (arith, nat_tests) in
    ap (λ (s : List ℕ). d ∷ s) (all_same d es rest) ∙ ap (λ (x : ℕ). x ∷ es) (sym one)

one_step : (least nodes d : ℕ) → IsWithin least MOST_NUMBER d → advance_at least nodes (decimal d ∷ []) ≡ Ok (events.Advance (replicate nodes d), [])
unfolding advance_at steps_of
one_step least nodes d fits = rw (number_again least MOST_NUMBER d [] (omega arith) fits.0 fits.1) refl

short_again : (least : ℕ) (steps : List ℕ) → 1 ≤ length steps → AllByRecursion (IsWithin least MOST_NUMBER) steps → are_equal steps ≡ true →
    advance_at least (length steps) (decimal (get_or steps 0 0) ∷ []) ≡ Ok (events.Advance steps, [])
short_again least [] some all equal = absurd (omega arith)
short_again least (d ∷ ds) some all equal = one_step least (length (d ∷ ds)) d all.0 ∙ ap (λ (s : List ℕ). Ok (events.Advance s, [])) (all_same d (d ∷ ds) equal)

more_steps : (least d e : ℕ) (es : List ℕ) → AllByRecursion (IsWithin least MOST_NUMBER) (d ∷ e ∷ es) → advance_at least (length (d ∷ e ∷ es)) (in_full (d ∷ e ∷ es)) ≡ Ok (events.Advance (d ∷ e ∷ es), [])
unfolding advance_at steps_of
more_steps least d e es all =
    rw (number_again least MOST_NUMBER d (in_full (e ∷ es)) (omega arith) all.0.0 all.0.1)
    (ap (λ (r : Read (List ℕ)). r >>= λ s. Ok (events.Advance s.0, s.1)) (steps_again least (d ∷ e ∷ es) all))

pub full_again : (least : ℕ) (steps : List ℕ) → 1 ≤ length steps → AllByRecursion (IsWithin least MOST_NUMBER) steps → advance_at least (length steps) (in_full steps) ≡ Ok (events.Advance steps, [])
full_again least [] some all = absurd (omega arith)
full_again least (d ∷ []) some all = one_step least 1 d all.0
full_again least (d ∷ e ∷ es) some all = more_steps least d e es all

-- whichever it is
chosen : (b : Bool) (x y : List (List ℕ)) (P : List (List ℕ) → Type 0) → (b ≡ true → P x) → P y → P (cond b x y)
chosen true x y P h k = h refl
chosen false x y P h k = k

steps_words_again : (least : ℕ) (steps : List ℕ) → 1 ≤ length steps → AllByRecursion (IsWithin least MOST_NUMBER) steps → advance_at least (length steps) (steps_words steps) ≡ Ok (events.Advance steps, [])
steps_words_again least steps some all =
    chosen (are_equal steps) _ _ (λ ws. advance_at least (length steps) ws ≡ Ok (events.Advance steps, [])) (short_again least steps some all) (full_again least steps some all)

-- Events.

-- the event of the words after the first
abbrev pub event_again_at : ℕ → ℕ → Verb → Event → Type 0
event_again_at form nodes v e = event_at form nodes v (words_after e) ≡ Ok (e, [])

tick_again : (form nodes : ℕ) (n : NodeId) → IsNode n → event_again_at form nodes verbs.Tick (events.Tick n)
unfolding event_at words_after tick_at
tick_again form nodes n fits = rw (node_again n [] fits) refl

crash_again : (form nodes : ℕ) (n : NodeId) → IsNode n → event_again_at form nodes verbs.Crash (events.Crash n)
unfolding event_at words_after crash_at
crash_again form nodes n fits = rw (node_again n [] fits) refl

start_again : (form nodes : ℕ) (n : NodeId) → IsNode n → event_again_at form nodes verbs.Start (events.Start n)
unfolding event_at words_after start_at
start_again form nodes n fits = rw (node_again n [] fits) refl

deliver_again : (form nodes k : ℕ) → IsWithin 1 MOST_NUMBER k → event_again_at form nodes verbs.Deliver (events.Deliver k)
unfolding event_at words_after deliver_at
deliver_again form nodes k fits = rw (number_again 1 MOST_NUMBER k [] (omega arith) fits.0 fits.1) refl

lose_again : (form nodes k : ℕ) → IsWithin 1 MOST_NUMBER k → event_again_at form nodes verbs.Lose (events.Lose k)
unfolding event_at words_after lose_at
lose_again form nodes k fits = rw (number_again 1 MOST_NUMBER k [] (omega arith) fits.0 fits.1) refl

effect_again : (form nodes k : ℕ) → IsWithin 1 MOST_NUMBER k → event_again_at form nodes verbs.Effect (events.Effect k)
unfolding event_at words_after effect_at
effect_again form nodes k fits = rw (number_again 1 MOST_NUMBER k [] (omega arith) fits.0 fits.1) refl

report_again : (form nodes k : ℕ) (ok : Bool) → IsWithin 1 MOST_NUMBER k → event_again_at form nodes verbs.Report (events.Report k ok)
unfolding event_at words_after report_at
report_again form nodes k ok fits = rw (number_again 1 MOST_NUMBER k (result_text ok ∷ []) (omega arith) fits.0 fits.1, result_again ok []) refl

link_again : (n m : NodeId) → IsNode n → IsNode m → link_at (link_words n m) ≡ Ok ((n, m), [])
unfolding link_at
link_again n m from to = rw (node_again n (node_text m ∷ []) from, node_again m [] to) refl

cut_link_again : (form nodes : ℕ) (n m : NodeId) → IsNode n → IsNode m → event_again_at form nodes verbs.Cut (events.Cut n m)
unfolding event_at words_after cut_link_at
cut_link_again form nodes n m from to = rw (link_again n m from to) refl

heal_again : (form nodes : ℕ) (n m : NodeId) → IsNode n → IsNode m → event_again_at form nodes verbs.Heal (events.Heal n m)
unfolding event_at words_after heal_at
heal_again form nodes n m from to = rw (link_again n m from to) refl

app_again : (form nodes : ℕ) (c : ClientId) (ask : Ask) → IsWithin 1 MOST_NODE c.0 → FitsAsk form ask → event_again_at form nodes verbs.App (events.App c ask)
unfolding event_at words_after
app_again form nodes c ask client fits = app_words form c (ask_words ask) ask client (ask_again form ask fits)

advance_again : (form : ℕ) (steps : List ℕ) → AreSteps form (length steps) steps → event_again_at form (length steps) verbs.Adv (events.Advance steps)
unfolding event_at words_after
advance_again form steps fits = steps_words_again (least_step form) steps fits.0 fits.2

full_advance : (form : ℕ) (steps : List ℕ) → AreSteps form (length steps) steps → event_at form (length steps) verbs.Adv (in_full steps) ≡ Ok (events.Advance steps, [])
unfolding event_at
full_advance form steps fits = full_again (least_step form) steps fits.0 fits.2

-- a line whose first word is this one
begun : (form nodes : ℕ) (v : Verb) (w : List ℕ) (ws : List (List ℕ)) (e : Event) → bytes_eq w (codes "end") ≡ false → verb_of w ≡ Some v → event_at form nodes v ws ≡ Ok (e, []) → line_event form nodes (w ∷ ws) ≡ Ok (Some e)
unfolding line_event event_of verb_in ends
begun form nodes v w ws e other first h = rw (other, first, h) refl

pub event_is_read : (form nodes : ℕ) (e : Event) → Fits form nodes e → line_event form nodes (words e) ≡ Ok (Some e)
event_is_read form nodes (events.Tick n) fits = begun form nodes verbs.Tick _ _ _ refl refl (tick_again form nodes n fits)
event_is_read form nodes (events.App c ask) fits = begun form nodes verbs.App _ _ _ refl refl (app_again form nodes c ask fits.0 fits.1)
event_is_read form nodes (events.Deliver k) fits = begun form nodes verbs.Deliver _ _ _ refl refl (deliver_again form nodes k fits)
event_is_read form nodes (events.Lose k) fits = begun form nodes verbs.Lose _ _ _ refl refl (lose_again form nodes k fits)
event_is_read form nodes (events.Cut n m) fits = begun form nodes verbs.Cut _ _ _ refl refl (cut_link_again form nodes n m fits.0 fits.1)
event_is_read form nodes (events.Heal n m) fits = begun form nodes verbs.Heal _ _ _ refl refl (heal_again form nodes n m fits.0 fits.1)
event_is_read form nodes (events.Advance steps) fits =
    subst (λ n. line_event form n (words (events.Advance steps)) ≡ Ok (Some (events.Advance steps))) fits.1
    (begun form (length steps) verbs.Adv _ _ _ refl refl (advance_again form steps (rw fits.1 fits.0, refl, fits.2)))
event_is_read form nodes (events.Effect k) fits = begun form nodes verbs.Effect _ _ _ refl refl (effect_again form nodes k fits)
event_is_read form nodes (events.Report k ok) fits = begun form nodes verbs.Report _ _ _ refl refl (report_again form nodes k ok fits)
event_is_read form nodes (events.Crash n) fits = begun form nodes verbs.Crash _ _ _ refl refl (crash_again form nodes n fits)
event_is_read form nodes (events.Start n) fits = begun form nodes verbs.Start _ _ _ refl refl (start_again form nodes n fits)

full_is_read : (form nodes : ℕ) (steps : List ℕ) → AreSteps form nodes steps → line_event form nodes (codes "adv" ∷ in_full steps) ≡ Ok (Some (events.Advance steps))
full_is_read form nodes steps fits =
    subst (λ n. line_event form n (codes "adv" ∷ in_full steps) ≡ Ok (Some (events.Advance steps))) fits.1
    (begun form (length steps) verbs.Adv _ _ _ refl refl (full_advance form steps (rw fits.1 fits.0, refl, fits.2)))

full_words : (form nodes : ℕ) (ws : List (List ℕ)) (e : Event) → Fits form nodes e → AreFull ws e → line_event form nodes ws ≡ Ok (Some e)
full_words form nodes ws (events.Advance steps) fits full = ap (line_event form nodes) full ∙ full_is_read form nodes steps fits
full_words form nodes ws (events.Tick n) fits full = absurd full
full_words form nodes ws (events.App c ask) fits full = absurd full
full_words form nodes ws (events.Deliver k) fits full = absurd full
full_words form nodes ws (events.Lose k) fits full = absurd full
full_words form nodes ws (events.Cut n m) fits full = absurd full
full_words form nodes ws (events.Heal n m) fits full = absurd full
full_words form nodes ws (events.Effect k) fits full = absurd full
full_words form nodes ws (events.Report k ok) fits full = absurd full
full_words form nodes ws (events.Crash n) fits full = absurd full
full_words form nodes ws (events.Start n) fits full = absurd full

either : (form nodes : ℕ) (ws : List (List ℕ)) (e : Event) → Fits form nodes e → (ws ≡ words e) ⊎ AreFull ws e → line_event form nodes ws ≡ Ok (Some e)
either form nodes ws e fits (inl same) = ap (line_event form nodes) same ∙ event_is_read form nodes e fits
either form nodes ws e fits (inr full) = full_words form nodes ws e fits full

-- what spells an event is read as this event
pub spelled_is_read : (form nodes : ℕ) (ws : List (List ℕ)) (e : Event) → Spells form nodes ws e → line_event form nodes ws ≡ Ok (Some e)
spelled_is_read form nodes ws e spells = either form nodes ws e spells.0 spells.1

same_event : (e f : Event) → (let a : Result (Option Event) Fault = Ok (Some e) in let b : Result (Option Event) Fault = Ok (Some f) in a ≡ b) → e ≡ f
same_event e f h = cc

-- words spell one event at most
pub one_event : (form nodes : ℕ) (ws : List (List ℕ)) (e f : Event) → Spells form nodes ws e → Spells form nodes ws f → e ≡ f
one_event form nodes ws e f a b = same_event e f (sym (spelled_is_read form nodes ws e a) ∙ spelled_is_read form nodes ws f b)
