-- The counts are true, in every run.
use Rattle.st_lemmas.proofs.Words
use Words.{◌≡◌, ℕ, ◌+◌, Bool, true, false, List, [], ◌∷◌, ◌++◌, Option, Some, None, Ok, refl, sym, ap, ◌∙◌, subst, arith, length-append, if◌then◌else◌}
use Words.{cons_option, length, drop, filter, filter_map, is_some, map, suc, take, Event, Observation}
use Words.seen
use Words.Events as ev
use Words.Events.{WorldTurn, summary, world_step}
use Words.History.{Traced, traced, traced_after}
use Words.Lines.{IsLogTold}
use Words.Safety.{Step, step}
use Words.World.{World, fresh_world}
use Words.Lengths.{length_map}
use Rattle.st_rules.specs.declared.observation.Summary.{Summary}
use Rattle.st_promises.specs.Counts.{IsCounted, command_in, command_told, count_lines, is_command_line, is_message_line, message_in, message_told}
use Rattle.st_promises.specs.Counts.{under_numbers, TheCountsAreTrue}
use Rattle.st_lemmas.proofs.Steps.{step_happens, throughout}
use Rattle.st_laws_pages.specs.Asks.Law.{InEveryRun}
use Rattle.st_laws_pages.proofs.Disks.Told.{step_told}
use Rattle.st_laws_lines.proofs.Growing.{Grows}
use Rattle.st_laws_lines.proofs.Counting.{Tells, tells_event}
use Rattle.st_laws_lines.proofs.Log.{Counts, Open_changes, log_counts}

-- what comes before a list, and after it
drop_front : {A : Type 0} (xs ys : List A) → drop (length xs) (xs ++ ys) ≡ ys
drop_front [] ys = refl
drop_front (x ∷ xs) ys = drop_front xs ys

take_front : {A : Type 0} (xs ys : List A) → take (length xs) (xs ++ ys) ≡ xs
take_front [] ys = refl
take_front (x ∷ xs) ys = ap (λ z. x ∷ z) (take_front xs ys)

-- what lines add to a list
module _ {A B : Type 0} (line : Observation → Option (ℕ × A)) (f : B → A) (xs : List B) (os : List Observation) (ys : List A) (g : Grows line (map f xs) os ys) where
  added : drop (length xs) ys ≡ g.new
  added = ap (λ n. drop n ys) (sym (length_map f xs)) ∙ ap (λ z. drop (length (map f xs)) z) g.is ∙ drop_front (map f xs) g.new

  pub adds : filter_map line os ≡ under_numbers (length xs + 1) (drop (length xs) ys)
  adds = g.lines ∙ ap (λ n. under_numbers (n + 1) g.new) (length_map f xs) ∙ ap (λ z. under_numbers (length xs + 1) z) (sym added)

  pub keeps : take (length xs) ys ≡ map f xs
  keeps = ap (λ n. take n ys) (sym (length_map f xs)) ∙ ap (λ z. take (length (map f xs)) z) g.is ∙ take_front (map f xs) g.new

-- how many lines tell something
told_count : {A : Type 0} (line : Observation → Option A) (p : Observation → Bool) → ((o : Observation) → is_some (line o) ≡ p o) → (os : List Observation) → length (filter_map line os) ≡ count_lines p os
told_count line p same [] = refl
told_count line p same (o ∷ os) = go (line o) (p o) (same o) (told_count line p same os)
  where
    go : (z : Option _) (b : Bool) → is_some z ≡ b → length (filter_map line os) ≡ count_lines p os → length (cons_option z (filter_map line os)) ≡ length (if b then o ∷ filter p os else filter p os)
    go None true e h = cc
    go None false e h = h
    go (Some y) true e h = ap suc h
    go (Some y) false e h = cc

numbers_length : {A : Type 0} (n : ℕ) (xs : List A) → length (under_numbers n xs) ≡ length xs
unfolding under_numbers
numbers_length n [] = refl
numbers_length n (x ∷ xs) = ap suc (numbers_length (n + 1) xs)

longer : {A B : Type 0} (line : Observation → Option (ℕ × A)) (p : Observation → Bool) → ((o : Observation) → is_some (line o) ≡ p o) → (f : B → A) (xs zs : List B) (os : List Observation) → Grows line (map f xs) os (map f zs) → length zs ≡ length xs + count_lines p os
longer line p same f xs zs os g =
    let a : length (map f zs) ≡ length (map f xs ++ g.new) = ap (λ z. length z) g.is in
    let b = length-append (map f xs) g.new in
    let c = length_map f zs in
    let d = length_map f xs in
    let e : length (filter_map line os) ≡ length (under_numbers (length (map f xs) + 1) g.new) = ap (λ z. length z) g.lines in
    let h = numbers_length (length (map f xs) + 1) g.new in
    let i = told_count line p same os in
    omega (arith, a, b, c, d, e, h, i)

is_message : (o : Observation) → is_some (message_told o) ≡ is_message_line o
is_message (seen.Sent k m) = refl
is_message o = refl

is_command : (o : Observation) → is_some (command_told o) ≡ is_command_line o
is_command (seen.Submitted k c n what) = refl
is_command o = refl

-- summaries that are alike part by part
abbrev summed : ℕ → ℕ → ℕ → ℕ → ℕ → ℕ → ℕ → ℕ → Summary
summed a b c d e f g h = record { events = a; sent = b; commands = c; writes = d; reads = e; hard = f; gone = g; stolen = h }

sums : (a a2 b b2 c c2 d d2 e e2 f f2 g g2 h h2 : ℕ) → a ≡ a2 → b ≡ b2 → c ≡ c2 → d ≡ d2 → e ≡ e2 → f ≡ f2 → g ≡ g2 → h ≡ h2 → summed a b c d e f g h ≡ summed a2 b2 c2 d2 e2 f2 g2 h2
sums a a2 b b2 c c2 d d2 e e2 f f2 g g2 h h2 p q r s t u v w =
    ap (λ z. summed z b c d e f g h) p ∙ ap (λ z. summed a2 z c d e f g h) q ∙ ap (λ z. summed a2 b2 z d e f g h) r ∙ ap (λ z. summed a2 b2 c2 z e f g h) s
    ∙ ap (λ z. summed a2 b2 c2 d2 z f g h) t ∙ ap (λ z. summed a2 b2 c2 d2 e2 z g h) u ∙ ap (λ z. summed a2 b2 c2 d2 e2 f2 z h) v ∙ ap (λ z. summed a2 b2 c2 d2 e2 f2 g2 z) w

counted : (w v : World) (os : List Observation) → Tells (ev.counted w) os v → Counts w.log os v.log → IsCounted w v os
unfolding summary
counted w v os a b =
    record {
      messages = adds message_told message_in w.net.messages os (map message_in v.net.messages) a.messages;
      kept_messages = keeps message_told message_in w.net.messages os (map message_in v.net.messages) a.messages;
      commands = adds command_told command_in w.commands os (map command_in v.commands) a.commands;
      kept_commands = keeps command_told command_in w.commands os (map command_in v.commands) a.commands;
      whats = a.whats.is;
      counts =
          sums _ _ _ _ _ _ _ _ _ _ _ _ _ _ _ _ a.events (longer message_told is_message_line is_message message_in w.net.messages v.net.messages os a.messages)
          (longer command_told is_command_line is_command command_in w.commands v.commands os a.commands) b.writes a.reads b.hard b.gone a.stolen;
    }

-- What holds after every step: pending entries are writes and patches.
Stands : List Step → Traced → Type 0
Stands past t = Open_changes t.world.log

next : (past : List Step) (t : Traced) (e : Event) (sc : WorldTurn) → Stands past t → world_step t.world e ≡ Ok sc → TheCountsAreTrue past (step t e sc) × Stands (past ++ step t e sc ∷ []) (traced_after e t sc)
unfolding Stands
next past t e sc h is =
    let a : Tells (ev.counted t.world) sc.seen sc.world = subst (λ (s : WorldTurn). Tells (ev.counted t.world) s.seen s.world) (sym (step_happens t.world e sc is).1) (tells_event (ev.counted t.world) e) in
    let told : IsLogTold sc.world t.world.log sc.seen = step_told past t e sc is in
    let b = log_counts sc.world t.world.log sc.seen told.numbers h in
    (counted t.world sc.world sc.seen a (subst (Counts t.world.log sc.seen) told.entries b.0), subst Open_changes told.entries b.1)

pub counts_law : InEveryRun TheCountsAreTrue
unfolding Stands fresh_world
counts_law k clients servers disks blocks form es head = throughout TheCountsAreTrue Stands next es [] (traced (fresh_world k clients servers disks blocks form)) tt
