-- The lines of an event give the next numbers, and each describes what has its number.
use Rattle.st_lemmas.proofs.Words
use Words.{◌≡◌, ℕ, ◌+◌, Bool, true, ◌&&◌, ◌==◌, List, [], ◌∷◌, ◌++◌, Option, Some, None, refl, sym, ap, ◌∙◌, subst, arith, inl, inr, append_assoc}
use Words.{length-append, eq-eqb, cons_option, drop, length, filter_map, map, option_map, slice_get, suc, take, zero, ClientId, Header, Message, Observation}
use Words.{IssuedCommand, SentMessage}
use Words.seen
use Words.Events.{summary}
use Words.History.{traced}
use Words.Safety.{Step, Throughout, steps}
use Words.World.{World, fresh_world, issued_of, message_of, numbered}
use Words.Lists.{Has}
use Words.Numbers.{get_last, get_map}
use Words.Tables.{all_pass, and_both}
use Words.Lengths.{get_longer, length_map}
use Words.Members.{has_filter_map}
use Rattle.std.proofs.Common.{take-append-drop}
use Rattle.st_rules.specs.declared.observation.Summary.{Summary}
use Rattle.st_promises.specs.Numbers.{AreNumbered, LinesGiveTheNextNumbers, command_number, follow_from, is_sent_as, is_told_right, message_number, same_header}
use Rattle.st_promises.specs.Numbers.{same_summary}
use Rattle.st_promises.specs.Faults.{is_own_command}
use Rattle.st_promises.specs.Counts.{IsCounted, TheCountsAreTrue, command_in, command_told, message_in, message_told, under_numbers}
use Rattle.st_laws_lines.proofs.Growing.{Grows}
use Rattle.st_laws_lines.proofs.Law.{counts_law}
use Rattle.st_laws_pages.specs.Asks.Law.{InEveryRun}

-- the number of what is reported
abbrev first_of : {A : Type 0} → ℕ × A → ℕ
first_of x = x.0

-- the numbers of what lines tell
numbers_told : {A : Type 0} (line : Observation → Option (ℕ × A)) (number : Observation → Option ℕ) → ((o : Observation) → number o ≡ option_map first_of (line o)) → (os : List Observation) → filter_map number os ≡ map first_of (filter_map line os)
numbers_told line number same [] = refl
numbers_told line number same (o ∷ os) = go (number o) (line o) (same o) (numbers_told line number same os)
  where
    go : (n : Option ℕ) (x : Option (ℕ × _)) → n ≡ option_map first_of x → filter_map number os ≡ map first_of (filter_map line os) → cons_option n (filter_map number os) ≡ map first_of (cons_option x (filter_map line os))
    go n None e h = ap (λ z. cons_option z (filter_map number os)) e ∙ h
    go n (Some y) e h = ap (λ z. cons_option z (filter_map number os)) e ∙ ap (λ z. y.0 ∷ z) h

-- numbers that are given one after another follow one another
follow : {A : Type 0} (n : ℕ) (xs : List A) → follow_from n (map first_of (under_numbers n xs)) ≡ true
unfolding follow_from under_numbers
follow n [] = refl
follow n (x ∷ xs) = and_both (n == n) _ (eq-eqb n n refl) (follow (n + 1) xs)

numbers_follow : {A : Type 0} (line : Observation → Option (ℕ × A)) (number : Observation → Option ℕ) → ((o : Observation) → number o ≡ option_map first_of (line o)) → (n : ℕ) (os : List Observation) (xs : List A) → filter_map line os ≡ under_numbers n xs → follow_from n (filter_map number os) ≡ true
numbers_follow line number same n os xs e = ap (follow_from n) (numbers_told line number same os ∙ ap (map first_of) e) ∙ follow n xs

-- what is given a number is there
stands_there : {A : Type 0} (xs ys : List A) (k : ℕ) (v : A) → Has (k, v) (under_numbers (length xs + 1) ys) → numbered (xs ++ ys) k ≡ Some v
unfolding under_numbers
stands_there xs [] k v h = absurd h
stands_there xs (y ∷ ys) k v (inl e) =
    let n : k ≡ length xs + 1 = ap first_of e in
    let z : length xs + 1 ≡ suc (length xs) = omega arith in
    let there : slice_get ((xs ++ y ∷ []) ++ ys) (length xs) ≡ Some y = get_longer (xs ++ y ∷ []) ys (length xs) y (get_last xs y) in
    ap (numbered (xs ++ y ∷ ys)) (n ∙ z) ∙ ap (λ zs. slice_get zs (length xs)) (sym (append_assoc xs (y ∷ []) ys)) ∙ there ∙ ap (λ (p : ℕ × _). Some p.1) (sym e)
stands_there xs (y ∷ ys) k v (inr h) =
    let z : length xs + 1 + 1 ≡ length (xs ++ y ∷ []) + 1 = ap (λ n. n + 1) (sym (length-append xs (y ∷ []))) in
    ap (λ zs. numbered zs k) (sym (append_assoc xs (y ∷ []) ys)) ∙ stands_there (xs ++ y ∷ []) ys k v (subst (λ n. Has (k, v) (under_numbers n ys)) z h)

-- what a line tells is under its number
is_there : {A B : Type 0} (line : Observation → Option (ℕ × A)) (f : B → A) (xs : List A) (os : List Observation) (zs : List B) → Grows line xs os (map f zs) → (o : Observation) (k : ℕ) (v : A) → Has o os → line o ≡ Some (k, v) → option_map f (numbered zs k) ≡ Some v
is_there line f xs os zs g o k v h e =
    mapped k ∙ ap (λ ys. numbered ys k) g.is ∙ stands_there xs g.new k v (subst (Has (k, v)) g.lines (has_filter_map line os o (k, v) h e))
  where
    mapped : (n : ℕ) → option_map f (numbered zs n) ≡ numbered (map f zs) n
    mapped zero = refl
    mapped (suc n) = sym (get_map f zs n)

self_header : (h : Header) → same_header h h ≡ true
self_header h =
    and_both _ _ (and_both _ _ (eq-eqb h.from h.from refl) (and_both _ _ (eq-eqb h.to h.to refl) (eq-eqb h.life h.life refl)))
    (and_both _ _ (eq-eqb h.epoch h.epoch refl) (and_both _ _ (eq-eqb h.number h.number refl) (eq-eqb h.stamp h.stamp refl)))

self_summary : (s : Summary) → same_summary s s ≡ true
self_summary s =
    and_both _ _ (and_both _ _ (eq-eqb s.events s.events refl) (and_both _ _ (eq-eqb s.sent s.sent refl) (and_both _ _ (eq-eqb s.commands s.commands refl) (eq-eqb s.writes s.writes refl))))
    (and_both _ _ (eq-eqb s.reads s.reads refl) (and_both _ _ (eq-eqb s.hard s.hard refl) (and_both _ _ (eq-eqb s.gone s.gone refl) (eq-eqb s.stolen s.stolen refl))))

sent_right : (m : Message) (o : Option SentMessage) → option_map message_in o ≡ Some m → is_sent_as m.header o ≡ true
sent_right m None e = cc
sent_right m (Some s) e = ap (λ (z : Option Message). same_header (header_in z) m.header) e ∙ self_header m.header
  where
    header_in : Option Message → Header
    header_in None = m.header
    header_in (Some x) = x.header

issued_right : (c : ClientId) (number : ℕ) (o : Option IssuedCommand) → option_map command_in o ≡ Some (c, number) → is_own_command c number o ≡ true
issued_right c number None e = cc
issued_right c number (Some k) e = ap (λ (z : Option (ℕ × ℕ)). pair_is z) (ap (option_map (λ (p : ClientId × ℕ). (p.0.0, p.1))) e) ∙ and_both (c.0 == c.0) _ (eq-eqb c.0 c.0 refl) (eq-eqb number number refl)
  where
    pair_is : Option (ℕ × ℕ) → Bool
    pair_is None = true
    pair_is (Some p) = (p.0 == c.0) && (p.1 == number)

grown : {A B : Type 0} (line : Observation → Option (ℕ × A)) (f : B → A) (xs ys : List B) (os : List Observation) → filter_map line os ≡ under_numbers (length xs + 1) (drop (length xs) (map f ys)) → take (length xs) (map f ys) ≡ map f xs → Grows line (map f xs) os (map f ys)
grown line f xs ys os lines kept =
    record {
      new = drop (length xs) (map f ys);
      lines = lines ∙ ap (λ n. under_numbers (n + 1) (drop (length xs) (map f ys))) (sym (length_map f xs));
      is = sym (take-append-drop (length xs) (map f ys)) ∙ ap (λ z. z ++ drop (length xs) (map f ys)) kept;
    }

-- so the lines of an event give the next numbers
numbered_by : (w v : World) (os : List Observation) → IsCounted w v os → AreNumbered w v os
numbered_by w v os t =
    record {
      messages = numbers_follow message_told message_number message_same (length w.net.messages + 1) os _ t.messages;
      commands = numbers_follow command_told command_number command_same (length w.commands + 1) os _ t.commands;
      told = all_pass (is_told_right v) os right;
      counts = ap (same_summary (summary v)) (sym t.counts) ∙ self_summary (summary v);
    }
  where
    message_same : (o : Observation) → message_number o ≡ option_map first_of (message_told o)
    message_same (seen.Sent k m) = refl
    message_same o = refl

    command_same : (o : Observation) → command_number o ≡ option_map first_of (command_told o)
    command_same (seen.Submitted k c n what) = refl
    command_same o = refl

    right : (o : Observation) → Has o os → is_told_right v o ≡ true
    right (seen.Sent k m) h = sent_right m (message_of v k) (is_there message_told message_in _ os v.net.messages (grown message_told message_in w.net.messages v.net.messages os t.messages t.kept_messages) (seen.Sent k m) k m h refl)
    right (seen.Submitted k c n what) h = issued_right c n (issued_of v k) (is_there command_told command_in _ os v.commands (grown command_told command_in w.commands v.commands os t.commands t.kept_commands) (seen.Submitted k c n what) k (c, n) h refl)
    right o h = refl

-- at each step
each_step : (xs past : List Step) → Throughout TheCountsAreTrue past xs → Throughout LinesGiveTheNextNumbers past xs
unfolding Throughout
each_step [] past h = tt
each_step (x ∷ xs) past h = (numbered_by x.before.world x.after.world x.seen h.0, each_step xs (past ++ x ∷ []) h.1)

pub numbers_law : InEveryRun LinesGiveTheNextNumbers
numbers_law k clients servers disks blocks form es head = each_step (steps es (traced (fresh_world k clients servers disks blocks form))) [] (counts_law k clients servers disks blocks form es head)
