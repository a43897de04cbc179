-- Open asks have noticed, after each step of the volume, what there is to notice: to notice again changes nothing.
use Rattle.std.proofs.Common.{◌≡◌, ℕ, zero, suc, Bool, true, false, not, ◌&&◌, ◌||◌, ◌==◌, List, [], ◌∷◌, ◌++◌, length, map, Option, Some, None, refl, sym, ap, ◌∙◌, inl, inr, if◌then◌else◌}
use Rattle.std.specs.Prelude.{filter, find, nat_le, option_and_then}
use Rattle.st_base.specs.declared.config.Config.{Config}
use Rattle.st_base.specs.declared.ids.ClientId.{ClientId}
use Rattle.st_messages.specs.declared.answer.AppAnswer.{AppAnswer}
use Rattle.st_messages.specs.declared.answer.AppAnswer.TheVariants as answers
use Rattle.st_messages.specs.declared.ask.Ask.{Ask}
use Rattle.st_rules.specs.History.{Traced, traced}
use Rattle.st_rules.specs.Safety as safety
use Rattle.st_rules.specs.Safety.{Step, steps}
use Rattle.st_rules.specs.World.{fresh_world}
use Rattle.st_lemmas.specs.Lists.{Has}
use Rattle.st_lemmas.proofs.Steps.{throughout_all}
use Rattle.st_lemmas.proofs.Tables.{has_filter}
use Rattle.st_laws_volume.specs.Logs.{InEveryRun}
use Rattle.st_laws_volume.specs.Notices.{AsksHaveNoticed, HasNoticed}
use Rattle.st_laws_volume.specs.Options.{OnSome}
use Rattle.st_laws_volume.specs.Witness.{Witness, begun, if_told, led_by, steps_of, volume_after}
use Rattle.st_laws_volume.proofs.AskedAsks.{Nothing}
use Rattle.st_laws_volume.proofs.Carried.{IsKept, Led, carried}
use Rattle.st_laws_volume.proofs.Options.{on_all, on_if, on_map, on_more, on_then}
use Rattle.st_laws_volume.proofs.ReadPages.{throughout_more}
use Rattle.st_volume.specs.declared.step.Fate.{Fate}
use Rattle.st_volume.specs.declared.step.Fate.TheVariants as fates
use Rattle.st_volume.specs.declared.step.VolumeStep.{VolumeStep}
use Rattle.st_volume.specs.declared.step.VolumeStep.TheVariants as kinds
use Rattle.st_volume.specs.Pages.{Entry, is_cause, place_of}
use Rattle.st_volume.specs.Volume as volume
use Rattle.st_volume.specs.Volume.{Pending, Volume, acts, after_answer, answered, answers_so, arrived, closed, ends, failed, fails, is_ask, is_of_client, is_read_of, is_sync_of, notice, noticing, numbered, open_of, run, step, takes, with_changed, with_fate}

-- Lists that a function leaves.
abbrev pub Fixed : {A : Type 0} → (A → A) → List A → Type 0
Fixed {A} f xs = (x : A) → Has x xs → f x ≡ x

map_fixed : {A : Type 0} (f : A → A) (xs : List A) → Fixed f xs → map f xs ≡ xs
map_fixed f [] h = refl
map_fixed f (x ∷ xs) h = ap (λ y. y ∷ map f xs) (h x (inl refl)) ∙ ap (λ ys. x ∷ ys) (map_fixed f xs (λ y i. h y (inr i)))

pub each_fixed : {A : Type 0} (f : A → A) (xs : List A) → map f xs ≡ xs → Fixed f xs
each_fixed f [] e y i = absurd i
each_fixed {A} f (x ∷ xs) e y i = go i (each_fixed f xs (rest e))
  where
    first : f x ∷ map f xs ≡ x ∷ xs → f x ≡ x
    first e = cc

    rest : f x ∷ map f xs ≡ x ∷ xs → map f xs ≡ xs
    rest e = cc

    go : Has y (x ∷ xs) → Fixed f xs → f y ≡ y
    go (inl q) h = ap f q ∙ (first e ∙ sym q)
    go (inr j) h = h y j

-- What was noticed is noticed again.
twice : (b x : Bool) → ((b || x) || x) ≡ (b || x)
twice true x = refl
twice false true = refl
twice false false = refl

abbrev marked : Pending → Bool → Bool → Bool → Pending
marked a missed full other = record a { missed = missed; full = full; other = other }

same_marks : (a : Pending) (m n f g o p : Bool) → m ≡ n → f ≡ g → o ≡ p → marked a m f o ≡ marked a n g p
same_marks a m n f g o p q r s = ap (λ x. marked a x f o) q ∙ (ap (λ x. marked a n x o) r ∙ ap (λ x. marked a n g x) s)

noticed_twice : (v : Volume) (a : Pending) → noticing v (noticing v a) ≡ noticing v a
noticed_twice v a = same_marks a _ _ _ _ _ _ (twice a.missed _) (twice a.full _) (twice a.other _)

abbrev pub Noticed : Volume → Type 0
Noticed v = map (noticing v) v.pending ≡ v.pending

after_notice : (v : Volume) → Noticed (notice v)
after_notice v = all v.pending
  where
    all : (xs : List Pending) → map (noticing v) (map (noticing v) xs) ≡ map (noticing v) xs
    all [] = refl
    all (a ∷ xs) = ap (λ b. b ∷ map (noticing v) (map (noticing v) xs)) (noticed_twice v a) ∙ ap (λ ys. noticing v a ∷ ys) (all xs)

-- fewer asks, and failures that they remember
fewer : (v : Volume) (test : Pending → Bool) → Noticed v → map (noticing v) (filter test v.pending) ≡ filter test v.pending
fewer v test h =
    map_fixed (noticing v) (filter test v.pending) (λ a i. each_fixed (noticing v) v.pending h a (has_filter test v.pending a i).0)

failures : (v : Volume) (c : ClientId) (number : ℕ) (test : Ask → Bool) (xs : List Pending) → map (noticing v) xs ≡ xs →
    map (noticing v) (map (fails c number test) xs) ≡ map (fails c number test) xs
failures v c number test xs h = all xs (each_fixed (noticing v) xs h)
  where
    one : (a : Pending) → noticing v a ≡ a → noticing v (fails c number test a) ≡ fails c number test a
    one a e = go (is_of_client c a && test a.ask)
      where
        go : (b : Bool) → noticing v (if b then record a { faults = number ∷ a.faults } else a) ≡ (if b then record a { faults = number ∷ a.faults } else a)
        go true = ap (λ (x : Pending). record x { faults = number ∷ a.faults }) e
        go false = e

    all : (ys : List Pending) → Fixed (noticing v) ys → map (noticing v) (map (fails c number test) ys) ≡ map (fails c number test) ys
    all [] f = refl
    all (a ∷ ys) f =
        ap (λ b. b ∷ map (noticing v) (map (fails c number test) ys)) (one a (f a (inl refl)))
        ∙ ap (λ zs. fails c number test a ∷ zs) (all ys (λ b i. f b (inr i)))

-- Each step.
after_closed : (v : Volume) (a : Pending) (answer : AppAnswer) → Noticed v → Noticed (closed a (after_answer v a answer))
after_closed v a answers.Hard h = fewer v (λ b. not (is_ask a.client a.op b)) h
after_closed v a (answers.Lost rows) h = fewer v (λ b. not (is_ask a.client a.op b)) h
after_closed v a (answers.Read bytes) h = fewer v (λ b. not (is_ask a.client a.op b)) h
after_closed v a (answers.Uncertain old zero) h = fewer v (λ b. not (is_ask a.client a.op b)) h
after_closed v a (answers.Uncertain old (suc new)) h = fewer v (λ b. not (is_ask a.client a.op b)) h
after_closed v a answers.Written h = fewer v (λ b. not (is_ask a.client a.op b)) h
after_closed v a answers.Cut h = fewer v (λ b. not (is_ask a.client a.op b)) h
after_closed v a answers.Quiesced h = fewer v (λ b. not (is_ask a.client a.op b)) h
after_closed v a answers.NoFile h = fewer v (λ b. not (is_ask a.client a.op b)) h
after_closed v a (answers.NoSpace n m) h = fewer v (λ b. not (is_ask a.client a.op b)) h
after_closed v a (answers.DiskFault n) h = fewer v (λ b. not (is_ask a.client a.op b)) h
after_closed v a answers.OpsFull h = fewer v (λ b. not (is_ask a.client a.op b)) h
after_closed v a answers.DirtyFull h = fewer v (λ b. not (is_ask a.client a.op b)) h
after_closed v a answers.NotHolder h = fewer v (λ b. not (is_ask a.client a.op b)) h
after_closed v a answers.TooManyLocks h = fewer v (λ b. not (is_ask a.client a.op b)) h
after_closed v a (answers.Named ino) h = fewer v (λ b. not (is_ask a.client a.op b)) h
after_closed v a (answers.Listed rows) h = fewer v (λ b. not (is_ask a.client a.op b)) h
after_closed v a (answers.Refused code) h = fewer v (λ b. not (is_ask a.client a.op b)) h

fate_noticed : (v : Volume) (i : ℕ) (test : Entry → Bool) (fate : Fate) → Noticed v → OnSome Noticed (with_fate v i test fate)
fate_noticed v i test fate h =
    on_map Noticed (with_changed v i) (option_and_then (ends test fate) (numbered v.log i))
    (on_all (λ e. Noticed (with_changed v i e)) (λ e. h) (option_and_then (ends test fate) (numbered v.log i)))

acts_noticed : (v : Volume) (it : VolumeStep) → Noticed v → OnSome Noticed (acts v it)
acts_noticed v (kinds.Asked c ask) h = on_if Noticed (nat_le (length (open_of v c)) 16) (Some (notice (arrived v c ask))) (after_notice (arrived v c ask))
acts_noticed v (kinds.TakesEffect c op) h =
    on_map Noticed notice (option_and_then (takes v) (find (is_ask c op) (v.pending ++ v.orphans)))
    (on_all (λ u. Noticed (notice u)) after_notice (option_and_then (takes v) (find (is_ask c op) (v.pending ++ v.orphans))))
acts_noticed v (kinds.Answered c op answer) h =
    on_then Noticed (answered v answer) (find (is_ask c op) v.pending)
    (on_all (λ a. OnSome Noticed (answered v answer a))
    (λ a. on_if Noticed (answers_so v a answer a.result) (Some (closed a (after_answer v a answer))) (after_closed v a answer h))
    (find (is_ask c op) v.pending))
acts_noticed v (kinds.Hardened i) h = fate_noticed v i (λ e. true) fates.Hard h
acts_noticed v (kinds.Dropped i cause) h = fate_noticed v i (is_cause cause) fates.Dropped h
acts_noticed v (kinds.Crashed c) h = fewer v (λ a. not (is_of_client c a)) h
acts_noticed v (kinds.Restarted s) h = h
acts_noticed v (kinds.WriteFailed c number i) h =
    on_map Noticed (failed v c number i) (option_and_then (λ e. place_of e.what) (numbered v.log i))
    (on_all (λ x. Noticed (failed v c number i x)) (λ x. failures v c number (is_sync_of x.0) v.pending h)
    (option_and_then (λ e. place_of e.what) (numbered v.log i)))
acts_noticed v (kinds.ReadFailed c s number) h = failures v c number (is_read_of s) v.pending h
acts_noticed v (kinds.Joined i c what) h = tt

step_noticed : (v : Volume) (it : VolumeStep) → Noticed v → OnSome Noticed (step v it)
step_noticed v (kinds.Joined i c what) h = on_if Noticed _ (Some (record v { lines = i })) h
step_noticed v (kinds.Asked c ask) h = on_if Noticed (v.lines == length v.log) (acts v (kinds.Asked c ask)) (acts_noticed v (kinds.Asked c ask) h)
step_noticed v (kinds.TakesEffect c op) h =
    on_if Noticed (v.lines == length v.log) (acts v (kinds.TakesEffect c op)) (acts_noticed v (kinds.TakesEffect c op) h)
step_noticed v (kinds.Answered c op answer) h =
    on_if Noticed (v.lines == length v.log) (acts v (kinds.Answered c op answer)) (acts_noticed v (kinds.Answered c op answer) h)
step_noticed v (kinds.Hardened i) h = on_if Noticed (v.lines == length v.log) (acts v (kinds.Hardened i)) (acts_noticed v (kinds.Hardened i) h)
step_noticed v (kinds.Dropped i cause) h = on_if Noticed (v.lines == length v.log) (acts v (kinds.Dropped i cause)) (acts_noticed v (kinds.Dropped i cause) h)
step_noticed v (kinds.Crashed c) h = on_if Noticed (v.lines == length v.log) (acts v (kinds.Crashed c)) (acts_noticed v (kinds.Crashed c) h)
step_noticed v (kinds.Restarted s) h = on_if Noticed (v.lines == length v.log) (acts v (kinds.Restarted s)) (acts_noticed v (kinds.Restarted s) h)
step_noticed v (kinds.WriteFailed c number i) h =
    on_if Noticed (v.lines == length v.log) (acts v (kinds.WriteFailed c number i)) (acts_noticed v (kinds.WriteFailed c number i) h)
step_noticed v (kinds.ReadFailed c s number) h =
    on_if Noticed (v.lines == length v.log) (acts v (kinds.ReadFailed c s number)) (acts_noticed v (kinds.ReadFailed c s number) h)

run_noticed : (its : List VolumeStep) (v : Volume) → Noticed v → OnSome Noticed (run its v)
unfolding run
run_noticed [] v h = h
run_noticed (it ∷ its) v h =
    on_then Noticed (run its) (step v it) (on_more Noticed (λ u. OnSome Noticed (run its u)) (λ u k. run_noticed its u k) (step v it) (step_noticed v it h))

-- In every run.
abbrev pub NoticesHold : List Step → Traced → Witness → Type 0
NoticesHold past t it = OnSome Noticed it.volume

after_noticed : (it : Witness) (x : Step) (o : Option Volume) → OnSome Noticed o → OnSome Noticed (volume_after it x o)
after_noticed it x None h = tt
after_noticed it x (Some v) h =
    on_then Noticed if_told (run (steps_of it v x) v)
    (on_more Noticed (λ u. OnSome Noticed (if_told u)) (λ u k. on_if Noticed (u.lines == length u.log) (Some u) k) (run (steps_of it v x) v)
    (run_noticed (steps_of it v x) v h))

pub notices_kept : IsKept Nothing NoticesHold
unfolding led_by
notices_kept past t e sc it f g h = after_noticed it (safety.step t e sc) it.volume h

pub notices_begin : (k : Config) (clients servers disks blocks form : ℕ) →
    NoticesHold [] (traced (fresh_world k clients servers disks blocks form))
    (begun (fresh_world k clients servers disks blocks form) (fresh_world k clients servers disks blocks form))
unfolding begun
notices_begin k clients servers disks blocks form = refl

pub asks_have_noticed : InEveryRun AsksHaveNoticed
asks_have_noticed k clients servers disks blocks form es head events =
    throughout_more (Led NoticesHold) AsksHaveNoticed
    (λ past x h. on_more Noticed HasNoticed (λ v k. ap (λ ps. record v { pending = ps }) k) _ h) []
    (steps es (traced (fresh_world k clients servers disks blocks form)))
    (carried Nothing NoticesHold notices_kept es (traced (fresh_world k clients servers disks blocks form)) (notices_begin k clients servers disks blocks form)
    (throughout_all Nothing (λ past t e sc f. tt) es [] (traced (fresh_world k clients servers disks blocks form))))
