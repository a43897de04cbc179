-- What a line spells is in the ranges that a world wants.
use Rattle.std.proofs.Common.{◌≡◌, ℕ, ◌+◌, ◌≤◌, inl, inr, true, List, [], ◌∷◌, length, map, refl, ◌∙◌, ap, arith}
use Rattle.std.specs.Prelude.{◌==◌, ◌&&◌, ◌||◌, nat_le, zero, suc, Ok}
use Rattle.std.specs.List.{list_all, AllByRecursion}
use Rattle.std.proofs.lemmas.Bool.Decides.{nat_tests}
use Rattle.std.proofs.lemmas.Bool.{and_from, eq-eqb}
use Rattle.std.proofs.lemmas.List.{length-append, length-replicate}
use Rattle.st_base.specs.Page.{filled}
use Rattle.st_base.specs.Config.{check}
use Rattle.st_base.specs.declared.config.Config.{Config}
use Rattle.st_base.specs.declared.names.NameAsk.{NameAsk}
use Rattle.st_base.specs.declared.names.NameAsk.TheVariants as name_asks
use Rattle.st_base.specs.declared.ids.FileId.{FileId}
use Rattle.st_messages.specs.declared.ask.Ask.{Ask}
use Rattle.st_messages.specs.declared.ask.Ask.TheVariants as asks
use Rattle.st_messages.specs.declared.event.Counts.{Counts}
use Rattle.st_messages.specs.declared.event.Event.{Event}
use Rattle.st_messages.specs.declared.event.Event.TheVariants as events
use Rattle.st_messages.specs.Kinds.{between}
use Rattle.st_messages.specs.Ranges.{is_ask, is_name_ask, is_file, has_length}
use Rattle.st_rules.specs.Safety.{IsHead, is_event, is_increment}
use Rattle.st_rules.specs.Extents.{numbers}
use Rattle.st_rules.specs.World.{fresh_world, client_clock, server_clock}
use Rattle.st_schedule_words.specs.Words.{is_name}
use Rattle.st_schedule.specs.Grammar.{Fits, FitsAsk, FitsName, FitsHead, IsFile, IsWithin, IsAfter, IsForm, IsStep, byte_of}

within : (least most n : ℕ) → IsWithin least most n → between least most n ≡ true
within least most n h =
    let low : least ≤ n = h.0 in
    let high : n ≤ most = h.1 in
    grind (arith, nat_tests)

at_most : (most n : ℕ) → n ≤ most → nat_le n most ≡ true
at_most most n h = grind (arith, nat_tests)

file_within : (f : FileId) → IsFile f.server.0 f.ino → is_file 1 f ≡ true
file_within f h = and_from _ _ (within 1 65535 f.server.0 h.0) (within 1 4294967295 f.ino h.1)

page_within : (p : ℕ) → p ≤ 1048575 → between 0 1048575 p ≡ true
page_within p h = within 0 1048575 p (omega arith, h)

name_length : (n : List ℕ) → is_name n ≡ true → has_length 1 255 n ≡ true
name_length n h = grind (arith, nat_tests)

after_length : (n : List ℕ) → IsAfter n → has_length 0 255 n ≡ true
after_length n (inl e) = ap (has_length 0 255) e
after_length n (inr h) = let k = name_length n h.0 in grind (arith, nat_tests)

-- what is asked of names
name_within : (s : ℕ) (a : NameAsk) → FitsName s a → (between 1 65535 s && is_name_ask a) ≡ true
unfolding is_name_ask
name_within s (name_asks.Lookup dir n) h = and_from _ _ (within 1 65535 s h.0.0) (and_from _ _ (within 1 4294967295 dir h.0.1) (name_length n h.1))
name_within s (name_asks.Create dir n) h = and_from _ _ (within 1 65535 s h.0.0) (and_from _ _ (within 1 4294967295 dir h.0.1) (name_length n h.1))
name_within s (name_asks.Mkdir dir n) h = and_from _ _ (within 1 65535 s h.0.0) (and_from _ _ (within 1 4294967295 dir h.0.1) (name_length n h.1))
name_within s (name_asks.Remove dir n ino) h =
    and_from _ _ (within 1 65535 s h.0.0)
    (and_from _ _ (within 1 4294967295 dir h.0.1) (and_from _ _ (name_length n h.1) (let few : ino ≤ 4294967295 = h.2 in grind (arith, nat_tests))))
name_within s (name_asks.Rename dir n dir2 n2) h =
    and_from _ _ (within 1 65535 s h.0.0)
    (and_from _ _ (and_from _ _ (within 1 4294967295 dir h.0.1) (name_length n h.1)) (and_from _ _ (within 1 4294967295 dir2 h.2) (name_length n2 h.3)))
name_within s (name_asks.List dir n) h = and_from _ _ (within 1 65535 s h.0.0) (and_from _ _ (within 1 4294967295 dir h.0.1) (after_length n h.1))

length_filled : (b : ℕ) → length (filled b) ≡ 4096
unfolding filled
length_filled b = length-replicate 4096 b

page_length : (bytes : List ℕ) → bytes ≡ filled (byte_of bytes) → (length bytes == 4096) ≡ true
page_length bytes e = eq-eqb (length bytes) 4096 (ap length e ∙ length_filled (byte_of bytes))

ask_within : (form : ℕ) (a : Ask) → FitsAsk form a → is_ask a ≡ true
unfolding is_ask
ask_within form (asks.Write f p bytes) h = and_from _ _ (file_within f h.0.0) (and_from _ _ (page_within p.0 h.0.1) (page_length bytes h.1.1))
ask_within form (asks.Read f p) h = and_from _ _ (file_within f h.0) (page_within p.0 h.1)
ask_within form (asks.Sync f) h = file_within f h
ask_within form (asks.Cut f p) h = and_from _ _ (file_within f h.0) (page_within p.0 h.1)
ask_within form (asks.Name s a) h = name_within s.0 a h
ask_within form (asks.Patch f p at bytes) h =
    let some : 1 ≤ length bytes = h.1.1 in
    let whole : at + length bytes ≤ 4096 = h.1.2 in
    and_from _ _ (file_within f h.0.0) (and_from _ _ (page_within p.0 h.0.1) (grind (arith, nat_tests)))

steps_within : (form : ℕ) (ds : List ℕ) → AllByRecursion (IsStep form) ds → list_all is_increment ds ≡ true
steps_within form [] h = refl
steps_within form (d ∷ ds) h = and_from _ _ (at_most 4294967295 d h.0.1) (steps_within form ds h.1)

-- an event that has a line is in its ranges
pub event_within : (form nodes : ℕ) (e : Event) → Fits form nodes e → is_event nodes e ≡ true
event_within form nodes (events.Tick n) h = refl
event_within form nodes (events.App c a) h = ask_within form a h.1
event_within form nodes (events.Deliver k) h = refl
event_within form nodes (events.Lose k) h = refl
event_within form nodes (events.Cut n m) h = refl
event_within form nodes (events.Heal n m) h = refl
event_within form nodes (events.Advance ds) h = and_from _ _ (eq-eqb (length ds) nodes h.1) (steps_within form ds h.2)
event_within form nodes (events.Effect k) h = refl
event_within form nodes (events.Report k ok) h = refl
event_within form nodes (events.Crash n) h = refl
event_within form nodes (events.Start n) h = refl

-- Heads.

form_within : (form grain : ℕ) → IsForm form grain → (((form == 1) && (grain == 0)) || (form == 2)) ≡ true
form_within form grain (inl f) = rw (f.0, f.1) refl
form_within form grain (inr f) = rw f refl

pub head_within : (k : Config) (n : Counts) (form : ℕ) → FitsHead k n form → check k ≡ Ok tt → IsHead k n.clients n.servers n.disks n.blocks form
head_within k n form h sound = record {
  sound = sound;
  some_clients = within 1 16 n.clients h.1.0;
  some_servers = within 1 4 n.servers h.1.1;
  enough_disks = within n.servers 8 n.disks h.1.2;
  some_blocks = within 1 4096 n.blocks h.1.3;
  known_form = form_within form k.grain h.2;
}

length_map : {A B : Type 0} (f : A → B) (xs : List A) → length (map f xs) ≡ length xs
length_map f [] = refl
length_map f (x ∷ xs) = ap suc (length_map f xs)

numbers_length : (a c : ℕ) → length (numbers a c) ≡ c
unfolding numbers
numbers_length a zero = refl
numbers_length a (suc c) = ap suc (numbers_length (a + 1) c)

-- a world has a clock for each node
pub fresh_clocks_length : (k : Config) (clients servers disks blocks form : ℕ) →
    length (fresh_world k clients servers disks blocks form).clocks ≡ clients + servers
unfolding fresh_world
fresh_clocks_length k clients servers disks blocks form =
    let a : length (map client_clock (numbers 1 clients)) ≡ clients = length_map client_clock (numbers 1 clients) ∙ numbers_length 1 clients in
    let b : length (map server_clock (numbers 1 servers)) ≡ servers = length_map server_clock (numbers 1 servers) ∙ numbers_length 1 servers in
    length-append (map client_clock (numbers 1 clients)) (map server_clock (numbers 1 servers)) ∙ rw (a, b) refl
