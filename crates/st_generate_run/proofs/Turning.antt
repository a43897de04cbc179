-- What is chosen is admissible and in its ranges; a turn, and the turns after it.
use Rattle.std.proofs.Common.{◌≡◌, ℕ, suc, ◌+◌, ◌-◌, ◌<◌, ◌≤◌, true, ◌++◌, List, [], ◌∷◌, None, Err, refl, sym, ap, ◌∙◌, subst, arith}
use Rattle.std.specs.Prelude.{codes, length}
use Rattle.std.specs.List.{flat_map}
use Rattle.st_messages.specs.declared.event.Event.{Event}
use Rattle.st_rules.specs.declared.observation.WorldRefusal.{WorldRefusal}
use Rattle.st_rules.specs.Admissible.{refusal}
use Rattle.st_rules.specs.Events.{world_by, world_step}
use Rattle.st_rules.specs.Generator as g
use Rattle.st_rules.specs.Run.{go_on, run}
use Rattle.st_rules.specs.Safety.{is_event}
use Rattle.st_rules.specs.World.{World, fresh_world}
use Rattle.st_generate.specs.GeneratedText.{event_line, generate_text, head_line, schedule_text}
use Rattle.st_generate.proofs.Choices.{chosen_good, chosen_stands}
use Rattle.st_generate.proofs.Sizes.{step_sized}
use Rattle.st_generate_run.specs.Turns.{IsReady, IsTurn, Leads, lines}

-- the event and the state after it
pub event_is : (e : Event) (y : ℕ) (c : Event × ℕ) → (e, y) ≡ c → e ≡ c.0
event_is e y c h = ap (λ (p : Event × ℕ). p.0) h

pub state_is : (e : Event) (y : ℕ) (c : Event × ℕ) → (e, y) ≡ c → y ≡ c.1
state_is e y c h = ap (λ (p : Event × ℕ). p.1) h

-- an event that was chosen
pub chosen_fits : (w : World) (x : ℕ) (e : Event) (y : ℕ) → IsReady w → (e, y) ≡ g.chosen w x → is_event (length w.clocks) e ≡ true
chosen_fits w x e y r h = subst (λ n. is_event n e ≡ true) (sym r.clocks) (subst (λ d. is_event 5 d ≡ true) (sym (event_is e y (g.chosen w x) h)) (chosen_good w x).range)

pub chosen_passes : (w : World) (x : ℕ) (e : Event) (y : ℕ) → IsReady w → (e, y) ≡ g.chosen w x → refusal w e ≡ None
chosen_passes w x e y r h = subst (λ d. refusal w d ≡ None) (sym (event_is e y (g.chosen w x) h)) (chosen_stands w x r.clients r.servers)

-- what is admissible is not refused
pub not_refused : (w : World) (e : Event) (f : WorldRefusal) → refusal w e ≡ None → world_step w e ≡ Err f → ⊥
unfolding world_step world_by
not_refused w e f a h = let z = ap (world_by w e) a in cc

-- where it leads
pub turned : (w : World) (x : ℕ) (e : Event) (v : World) (y : ℕ) → (e, y) ≡ g.chosen w x → Leads w e v → IsTurn w x v y
turned w x e v y h l = record { state = state_is e y (g.chosen w x) h; leads = subst (λ d. Leads w d v) (event_is e y (g.chosen w x) h) l }

pub ready_next : (w : World) (e : Event) (v : World) → IsReady w → Leads w e v → length v.clocks ≡ length w.clocks → IsReady v
ready_next w e v r l c = let s = step_sized w e _ l.step in record { clocks = c ∙ r.clocks; clients = s.clients ∙ r.clients; servers = s.servers ∙ r.servers }

-- the world of the head
pub ready_first : (w : World) → w ≡ g.generator_world → IsReady w
unfolding g.generator_world fresh_world Rattle.st_rules.specs.Extents.numbers
ready_first w e = subst IsReady (sym e) (record { clocks = refl; clients = refl; servers = refl })

-- One turn of the n - i that are left.
left_by_one : (i n : ℕ) → i < n → n - i ≡ suc (n - (i + 1))
left_by_one i n l = omega (arith, l)

-- after a turn, the events that are left
generated_next : (k : ℕ) (w : World) (x : ℕ) (v : World) (y : ℕ) → IsTurn w x v y → g.generated (suc k) w x ≡ (g.chosen w x).0 ∷ g.generated k v y
unfolding g.generated g.world_left
generated_next k w x v y t =
    ap (λ r. (g.chosen w x).0 ∷ g.generated k (g.world_left w r) (g.chosen w x).1) t.leads.step ∙ ap (λ z. (g.chosen w x).0 ∷ g.generated k v z) (sym t.state)

pub lines_next : (i n : ℕ) (w : World) (x : ℕ) (v : World) (y : ℕ) → i < n → IsTurn w x v y → lines (n - i) w x ≡ event_line (g.chosen w x).0 ++ lines (n - (i + 1)) v y
lines_next i n w x v y l t = ap (λ k. lines k w x) (left_by_one i n l) ∙ ap (flat_map event_line) (generated_next (n - (i + 1)) w x v y t)

pub run_next : (i n : ℕ) (w : World) (x : ℕ) (v : World) (y : ℕ) → i < n → IsTurn w x v y → (run (g.generated (n - i) w x) w).world ≡ (run (g.generated (n - (i + 1)) v y) v).world
unfolding run go_on
run_next i n w x v y l t =
    ap (λ k. (run (g.generated k w x) w).world) (left_by_one i n l)
    ∙ ap (λ es. (run es w).world) (generated_next (n - (i + 1)) w x v y t)
    ∙ ap (λ r. (go_on (run (g.generated (n - (i + 1)) v y)) w r).world) t.leads.step

-- the first line, whatever its event leads to
pub lines_first : (i n : ℕ) (w : World) (x : ℕ) → i < n →
    lines (n - i) w x ≡ event_line (g.chosen w x).0 ++ lines (n - (i + 1)) (g.world_left w (world_step w (g.chosen w x).0)) (g.chosen w x).1
unfolding g.generated
lines_first i n w x l = ap (λ k. lines k w x) (left_by_one i n l)

-- none is left
none_left : (i n : ℕ) → n ≤ i → n - i ≡ 0
none_left i n l = omega (arith, l)

pub lines_last : (i n : ℕ) (w : World) (x : ℕ) → n ≤ i → lines (n - i) w x ≡ []
unfolding g.generated
lines_last i n w x l = ap (λ k. lines k w x) (none_left i n l)

pub run_last : (i n : ℕ) (w : World) (x : ℕ) → n ≤ i → (run (g.generated (n - i) w x) w).world ≡ w
unfolding run g.generated
run_last i n w x l = ap (λ k. (run (g.generated k w x) w).world) (none_left i n l)

-- The whole text, after the line of the head.
pub text_is : (t : List ℕ) (n : ℕ) (w : World) (x : ℕ) → t ≡ head_line → (t ++ lines n w x) ++ codes "end\n" ≡ schedule_text (g.generated n w x)
unfolding schedule_text
text_is t n w x e = ap (λ h. (h ++ lines n w x) ++ codes "end\n") e

pub generated_is : (n seed : ℕ) (w : World) (x : ℕ) → w ≡ g.generator_world → x ≡ seed → schedule_text (g.generated n w x) ≡ generate_text n seed
unfolding generate_text g.generate
generated_is n seed w x e f = ap (λ v. schedule_text (g.generated n v x)) e ∙ ap (λ y. schedule_text (g.generated n g.generator_world y)) f

-- no event happened in the world of the head
pub first_events : (w : World) → w ≡ g.generator_world → w.tally.events ≡ 0
unfolding g.generator_world fresh_world
first_events w e = ap (λ (v : World). v.tally.events) e
