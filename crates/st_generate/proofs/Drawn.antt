-- What is drawn is in its ranges.
use Rattle.st_lemmas.proofs.Words
use Words.{◌≡◌, ℕ, zero, suc, ◌+◌, ◌-◌, ◌/◌, ◌^◌, ◌<◌, ◌≤◌, Bool, true, false, ◌&&◌, ◌==◌, [], ◌∷◌, length, Option, Some, None, refl, sym, ap, arith}
use Words.{if◌then◌else◌, min, nat_le, option_map, eqb-false, le-leb, Event}
use Words.Page.{filled}
use Words.Ranges.{is_ask}
use Words.events
use Words.Safety.{is_event, is_increment}
use Words.Tables.{and_both}
use Words.Generator as g
use Words.Truth.{if_either}
use Rattle.std.proofs.Common.{mod-lt}
use Rattle.std.proofs.lemmas.List.{length-replicate}
use Rattle.st_schedule_words.specs.Words.{MOST_NUMBER}
use Rattle.st_schedule.specs.Grammar.{Fits, IsNode, IsFile, IsEven, IsStep, byte_of}

-- a draw is below its bound
below_lt : (n x : ℕ) → 0 < n → g.below n x < n
unfolding g.below
below_lt n x h = mod-lt (x / 2 ^ 33) h

pub draw_lt : (k n x : ℕ) → 0 < n → g.draw k n x < n
draw_lt k n x h = below_lt n (g.state_after k x) h

-- a node of the world
node_in : (n : ℕ) → n < 5 → IsNode (g.drawn_node n)
node_in zero h = (omega arith, omega arith)
node_in (suc zero) h = (omega arith, omega arith)
node_in (suc (suc zero)) h = (omega arith, omega arith)
node_in (suc (suc (suc zero))) h = (omega arith, omega arith)
node_in (suc (suc (suc (suc zero)))) h = (omega arith, omega arith)
node_in (suc (suc (suc (suc (suc n))))) h = absurd (omega (arith, h))

pub node_drawn : (k x : ℕ) → IsNode (g.node k x)
node_drawn k x = node_in (g.draw k 5 x) (draw_lt k 5 x (omega arith))

-- a file
pub file_drawn : (k x : ℕ) → IsFile (g.file k x).server.0 (g.file k x).ino
file_drawn k x = let s = draw_lt k 2 x (omega arith) in let i = draw_lt (k + 1) 8 x (omega arith) in ((omega arith, omega (arith, s)), (omega arith, omega (arith, i)))

-- a page
page_drawn : (k x : ℕ) → (g.page k x).0 ≤ 1048575
page_drawn k x = let p = draw_lt k 4 x (omega arith) in omega (arith, p)

-- What is wanted of an event, with that many messages sent and commands submitted.
pub record Good (sent commands : ℕ) (e : Event) : Type 0 where
  pub range : is_event 5 e ≡ true
  pub line : sent ≤ MOST_NUMBER → commands ≤ MOST_NUMBER → Fits 1 5 e

-- of a candidate, if there is one
abbrev pub GoodDrawn : ℕ → ℕ → Option Event → Type 0
GoodDrawn sent commands None = Unit {0}
GoodDrawn sent commands (Some e) = Good sent commands e

-- Advances.
are_five : (a b c d e : ℕ) → a ≤ 4294967295 → b ≤ 4294967295 → c ≤ 4294967295 → d ≤ 4294967295 → e ≤ 4294967295 → is_event 5 (events.Advance (a ∷ b ∷ c ∷ d ∷ e ∷ [])) ≡ true
are_five a b c d e p q r s t =
    and_both (is_increment a) _ (le-leb a _ p)
    (and_both (is_increment b) _ (le-leb b _ q)
    (and_both (is_increment c) _ (le-leb c _ r)
    (and_both (is_increment d) _ (le-leb d _ s)
    (and_both (is_increment e) true (le-leb e _ t) refl))))

advance_good : (s k a b c d e : ℕ) → IsStep 1 a → IsStep 1 b → IsStep 1 c → IsStep 1 d → IsStep 1 e → Good s k (events.Advance (a ∷ b ∷ c ∷ d ∷ e ∷ []))
advance_good s k a b c d e p q r u v = record { range = are_five a b c d e p.1 q.1 r.1 u.1 v.1; line = λ x y. (omega arith, refl, (p, (q, (r, (u, (v, tt)))))) }

even_good : (s k x : ℕ) → GoodDrawn s k (g.even_advance x).0
unfolding g.even_advance
even_good s k x = let z = draw_lt 1 60 x (omega arith) in let d : IsStep 1 (1 + g.draw 1 60 x) = (omega arith, omega (arith, z)) in advance_good s k _ _ _ _ _ d d d d d

increment_in : (k x : ℕ) → IsStep 1 (g.increment k x)
increment_in k x = let z = draw_lt k 2 x (omega arith) in (omega arith, omega (arith, z))

uneven_good : (s k x : ℕ) → GoodDrawn s k (g.uneven_advance x).0
unfolding g.uneven_advance
uneven_good s k x = advance_good s k _ _ _ _ _ (increment_in 1 x) (increment_in 2 x) (increment_in 3 x) (increment_in 4 x) (increment_in 5 x)

-- Nodes.
tick_good : (s k x : ℕ) → GoodDrawn s k (g.tick x).0
unfolding g.tick
tick_good s k x = record { range = refl; line = λ a b. node_drawn 1 x }

crash_good : (s k x : ℕ) → GoodDrawn s k (g.crash x).0
unfolding g.crash
crash_good s k x = record { range = refl; line = λ a b. node_drawn 1 x }

start_good : (s k x : ℕ) → GoodDrawn s k (g.start x).0
unfolding g.start
start_good s k x = record { range = refl; line = λ a b. node_drawn 1 x }

cut_good : (s k x : ℕ) → GoodDrawn s k (g.cut x).0
unfolding g.cut
cut_good s k x = record { range = refl; line = λ a b. (node_drawn 1 x, node_drawn 2 x) }

heal_good : (s k x : ℕ) → GoodDrawn s k (g.heal x).0
unfolding g.heal
heal_good s k x = record { range = refl; line = λ a b. (node_drawn 1 x, node_drawn 2 x) }

-- Asks.
in_file : (server ino : ℕ) → IsFile server ino → (nat_le 1 server && nat_le server 65535) && (nat_le 1 ino && nat_le ino 4294967295) ≡ true
in_file server ino f = and_both _ _ (and_both _ _ (le-leb 1 server f.0.0) (le-leb server 65535 f.0.1)) (and_both _ _ (le-leb 1 ino f.1.0) (le-leb ino 4294967295 f.1.1))

in_page : (p : ℕ) → p ≤ 1048575 → nat_le 0 p && nat_le p 1048575 ≡ true
in_page p h = and_both _ _ (le-leb 0 p (omega arith)) (le-leb p 1048575 h)

asker_in : (k x : ℕ) → (1 ≤ (g.asker k x).0) × ((g.asker k x).0 ≤ 99)
asker_in k x = let z = draw_lt k 3 x (omega arith) in (omega arith, omega (arith, z))

byte_filled : (b : ℕ) → byte_of (filled b) ≡ b
unfolding filled
byte_filled b = refl

even_page : (b : ℕ) → b < 256 → IsEven (filled b)
even_page b h = let z = byte_filled b in (omega (arith, z, h), ap filled (sym z))

length_filled : (b : ℕ) → length (filled b) ≡ 4096
unfolding filled
length_filled b = length-replicate 4096 b

write_good : (s k x : ℕ) → GoodDrawn s k (g.ask_write x).0
unfolding g.ask_write is_ask
write_good s k x =
    record {
      range = and_both _ _ (in_file _ _ (file_drawn 2 x)) (and_both _ _ (in_page _ (page_drawn 4 x)) (ap (λ n. n == 4096) (length_filled (g.draw 5 256 x))));
      line = λ a b. (asker_in 1 x, ((file_drawn 2 x, page_drawn 4 x), even_page (g.draw 5 256 x) (draw_lt 5 256 x (omega arith))));
    }

read_good : (s k x : ℕ) → GoodDrawn s k (g.ask_read x).0
unfolding g.ask_read is_ask
read_good s k x = record { range = and_both _ _ (in_file _ _ (file_drawn 2 x)) (in_page _ (page_drawn 4 x)); line = λ a b. (asker_in 1 x, (file_drawn 2 x, page_drawn 4 x)) }

sync_good : (s k x : ℕ) → GoodDrawn s k (g.ask_sync x).0
unfolding g.ask_sync is_ask
sync_good s k x = record { range = in_file _ _ (file_drawn 2 x); line = λ a b. (asker_in 1 x, file_drawn 2 x) }

-- Numbers of messages and commands.

-- one of the last is from 1 to how many there are
abbrev IsNumberOf : ℕ → Option ℕ → Type 0
IsNumberOf count None = Unit {0}
IsNumberOf count (Some k) = (1 ≤ k) × (k ≤ count)

abbrev NumberFirst : ℕ → Option ℕ × ℕ → Type 0
NumberFirst count r = IsNumberOf count r.0

recent_in : (count last x : ℕ) → 0 < last → IsNumberOf count (g.recent count last x).0
unfolding g.recent
recent_in count last x h = go (count == 0) refl
  where
    go : (b : Bool) → (count == 0) ≡ b → NumberFirst count (if b then (None, x) else (Some (count - g.draw 1 (min count last) x), g.state_after 1 x))
    go true e = tt
    go false e =
        let some : 0 < count = let z = eqb-false count 0 e in omega (arith, z) in
        let z = draw_lt 1 (min count last) x (omega (arith, h, some)) in
        (omega (arith, z, some, h), omega arith)

-- an event of such a number
numbered_good : (s k count : ℕ) (event : ℕ → Event) → ((n : ℕ) → 1 ≤ n → n ≤ count → Good s k (event n)) → (o : Option ℕ) → IsNumberOf count o → GoodDrawn s k (option_map event o)
numbered_good s k count event h None i = tt
numbered_good s k count event h (Some n) i = h n i.0 i.1

module _ (sent submitted x : ℕ) where
  deliver_good : GoodDrawn sent submitted (g.deliver sent x).0
  unfolding g.deliver
  deliver_good = numbered_good sent submitted sent events.Deliver (λ n a b. record { range = refl; line = λ p q. (a, omega (arith, b, p)) }) _ (recent_in sent 12 x (omega arith))

  lose_good : GoodDrawn sent submitted (g.lose sent x).0
  unfolding g.lose
  lose_good = numbered_good sent submitted sent events.Lose (λ n a b. record { range = refl; line = λ p q. (a, omega (arith, b, p)) }) _ (recent_in sent 12 x (omega arith))

  effect_good : GoodDrawn sent submitted (g.effect submitted x).0
  unfolding g.effect
  effect_good = numbered_good sent submitted submitted events.Effect (λ n a b. record { range = refl; line = λ p q. (a, omega (arith, b, q)) }) _ (recent_in submitted 6 x (omega arith))

  success_good : GoodDrawn sent submitted (g.report_success submitted x).0
  unfolding g.report_success
  success_good = numbered_good sent submitted submitted g.success (λ n a b. record { range = refl; line = λ p q. (a, omega (arith, b, q)) }) _ (recent_in submitted 6 x (omega arith))

  report_good : GoodDrawn sent submitted (g.report submitted x).0
  unfolding g.report g.outcome
  report_good = go (g.recent submitted 6 x).0 (recent_in submitted 6 x (omega arith)) (g.recent submitted 6 x).1
    where
      go : (o : Option ℕ) → IsNumberOf submitted o → (y : ℕ) → GoodDrawn sent submitted (g.outcome o y).0
      go None i y = tt
      go (Some n) i y = record { range = refl; line = λ p q. (i.0, let z = i.1 in omega (arith, z, q)) }

-- Candidates.

module _ (sent submitted : ℕ) where
  -- the candidates of this function are good
  abbrev GoodFrom : (ℕ → Option Event × ℕ) → Type 0
  GoodFrom f = (x : ℕ) → GoodDrawn sent submitted (f x).0

  network_good : GoodFrom (g.network sent)
  unfolding g.network
  network_good x =
      if_either GoodFrom (g.draw 1 3 x == 0) (g.lose sent) _ (lose_good sent submitted)
      (if_either GoodFrom (g.draw 1 3 x == 1) g.cut g.heal (cut_good _ _) (heal_good _ _)) (g.state_after 1 x)

  crash_or_start_good : GoodFrom g.crash_or_start
  unfolding g.crash_or_start
  crash_or_start_good x =
      if_either GoodFrom (g.draw 1 20 x == 0) g.crash _ (crash_good _ _)
      (if_either GoodFrom (nat_le (g.draw 1 20 x) 9) g.start g.tick (start_good _ _) (tick_good _ _)) (g.state_after 1 x)

  candidate_good_of : (kind : ℕ) → GoodFrom (g.candidate_of sent submitted kind)
  unfolding g.candidate_of
  candidate_good_of kind =
      if_either GoodFrom (kind == 0) g.even_advance _ (even_good _ _)
      (if_either GoodFrom (kind == 1) g.uneven_advance _ (uneven_good _ _)
      (if_either GoodFrom (nat_le kind 3) g.tick _ (tick_good _ _)
      (if_either GoodFrom (kind == 4) g.ask_write _ (write_good _ _)
      (if_either GoodFrom (kind == 5) g.ask_read _ (read_good _ _)
      (if_either GoodFrom (kind == 6) g.ask_sync _ (sync_good _ _)
      (if_either GoodFrom (nat_le kind 10) (g.deliver sent) _ (deliver_good sent submitted)
      (if_either GoodFrom (kind == 11) (g.effect submitted) _ (effect_good sent submitted)
      (if_either GoodFrom (kind == 12) (g.report_success submitted) _ (success_good sent submitted)
      (if_either GoodFrom (kind == 13) (g.report submitted) _ (report_good sent submitted)
      (if_either GoodFrom (kind == 14) (g.network sent) g.crash_or_start network_good crash_or_start_good))))))))))

  pub candidate_good : GoodFrom (g.candidate sent submitted)
  unfolding g.candidate
  candidate_good x = candidate_good_of (g.draw 1 16 x) (g.state_after 1 x)
