-- What the steps of the volume do to the open asks of a client.
use Rattle.std.proofs.Common.{◌≡◌, ◌≢◌, ℕ, zero, suc, ◌+◌, ◌⊎◌, Bool, true, false, not, ◌&&◌, ◌==◌, List, [], ◌∷◌, ◌++◌, length, map, Option, Some, None, refl, sym, ap, ◌∙◌, if◌then◌else◌}
use Rattle.std.specs.Prelude.{filter, find, option_map, option_and_then}
use Rattle.std.specs.List.{list_any}
use Rattle.std.proofs.lemmas.Bool.{both_ways, eq-eqb, eqb-true, ne_eqb}
use Rattle.st_base.specs.declared.ids.ClientId.{ClientId}
use Rattle.st_base.specs.declared.ids.ServerId.{ServerId}
use Rattle.st_base.specs.declared.ids.FileId.{FileId}
use Rattle.st_base.specs.declared.ids.PageNo.{PageNo}
use Rattle.st_messages.specs.declared.answer.AppAnswer.{AppAnswer}
use Rattle.st_messages.specs.declared.answer.AppAnswer.TheVariants as answers
use Rattle.st_messages.specs.declared.ask.Ask.{Ask}
use Rattle.st_messages.specs.declared.ask.Ask.TheVariants as asks
use Rattle.st_lemmas.proofs.Lookups.{if_false, if_true}
use Rattle.st_lemmas.proofs.Tables.{and_true, found_at}
use Rattle.st_laws_volume.specs.Asks.{AsksOf, ask_key, in_volume}
use Rattle.st_laws_volume.specs.Options.{OnSome}
use Rattle.st_laws_volume.proofs.LogLines.{suc_is}
use Rattle.st_laws_volume.proofs.Options.{on_all, on_else, on_if, on_map, on_more, on_then}
use Rattle.st_volume.specs.declared.step.VolumeStep.{VolumeStep}
use Rattle.st_volume.specs.declared.step.VolumeStep.TheVariants as steps
use Rattle.st_volume.specs.declared.step.Fate.{Fate}
use Rattle.st_volume.specs.declared.step.Fate.TheVariants as fates
use Rattle.st_volume.specs.Pages.{Entry, failed_up_to, is_cause}
use Rattle.st_volume.specs.Trees.{Made}
use Rattle.st_volume.specs.Volume.{Volume, Pending, acts, after_answer, answered, arrived, closed, crashed, cuts, cuts_removed, done, effect, ends, entry, failed, failing, fails, file_of, freed, is_ask, is_read_of, is_sync_of, is_of_client, made, new_ask, notice, noticing, numbered, resulting, run, step, takes, with_changed, with_entry, with_fate, with_tree}

-- A client's asks, and one of them.
abbrev pub asks_as : ℕ → List (ℕ × Ask) → AsksOf
asks_as n ks = record { count = n; pending = ks }

abbrev key_by : ℕ → Ask → ℕ × Ask
key_by op ask = (op, ask)

abbrev asked_of : ClientId → Ask → ClientId × FileId
asked_of c ask = (c, file_of ask)

-- What is seen of a step concerns the asks of a client.
abbrev pub asked_once : Ask → AsksOf → AsksOf
asked_once ask a = record { count = a.count + 1; pending = a.pending ++ (a.count + 1, ask) ∷ [] }

abbrev pub without_ask : ℕ → List (ℕ × Ask) → List (ℕ × Ask)
without_ask op ks = filter (λ k. not (k.0 == op)) ks

-- one of them has a number
abbrev pub is_open_op : ℕ → List (ℕ × Ask) → Bool
is_open_op op ks = list_any (λ (k : ℕ × Ask). k.0 == op) ks

abbrev pub told_by : ClientId → VolumeStep → AsksOf → AsksOf
told_by c (steps.Asked d ask) a = if d.0 == c.0 then asked_once ask a else a
told_by c (steps.Answered d op answer) a = if d.0 == c.0 then record a { pending = without_ask op a.pending } else a
told_by c (steps.Crashed d) a = if d.0 == c.0 then record a { pending = [] } else a
told_by c it a = a

abbrev pub told_all : ClientId → List VolumeStep → AsksOf → AsksOf
told_all c [] a = a
told_all c (it ∷ its) a = told_all c its (told_by c it a)

pub told_both : (c : ClientId) (xs ys : List VolumeStep) (a : AsksOf) → told_all c (xs ++ ys) a ≡ told_all c ys (told_all c xs a)
told_both c [] ys a = refl
told_both c (x ∷ xs) ys a = told_both c xs ys (told_by c x a)

-- Asks that keep their client, number and ask.
record IsAskLike (a b : Pending) : Type 0 where
  client : b.client ≡ a.client
  op : b.op ≡ a.op
  ask : b.ask ≡ a.ask

ask_self : (a : Pending) → IsAskLike a a
ask_self a = record { client = refl; op = refl; ask = refl }

abbrev keys : ClientId → List Pending → List (ℕ × Ask)
keys c xs = map ask_key (filter (is_of_client c) xs)

key_if : (c : ClientId) (b : Bool) (a : Pending) (xs : List Pending) →
    map ask_key (if b then a ∷ filter (is_of_client c) xs else filter (is_of_client c) xs) ≡ (if b then ask_key a ∷ keys c xs else keys c xs)
key_if c true a xs = refl
key_if c false a xs = refl

keys_mapped : (c : ClientId) (f : Pending → Pending) → ((a : Pending) → IsAskLike a (f a)) → (xs : List Pending) → keys c (map f xs) ≡ keys c xs
keys_mapped c f h [] = refl
keys_mapped c f h (x ∷ xs) =
    let l = h x in
    key_if c (is_of_client c (f x)) (f x) (map f xs)
    ∙ (ap (λ (d : ClientId). if d.0 == c.0 then ask_key (f x) ∷ keys c (map f xs) else keys c (map f xs)) l.client
    ∙ (ap (λ n. if is_of_client c x then key_by n (f x).ask ∷ keys c (map f xs) else keys c (map f xs)) l.op
    ∙ (ap (λ n. if is_of_client c x then key_by x.op n ∷ keys c (map f xs) else keys c (map f xs)) l.ask
    ∙ (ap (λ ks. if is_of_client c x then ask_key x ∷ ks else ks) (keys_mapped c f h xs)
    ∙ sym (key_if c (is_of_client c x) x xs)))))

keys_last : (c : ClientId) (xs : List Pending) (a : Pending) → keys c (xs ++ a ∷ []) ≡ (if is_of_client c a then keys c xs ++ ask_key a ∷ [] else keys c xs)
keys_last c [] a = key_if c (is_of_client c a) a []
keys_last c (x ∷ xs) a =
    key_if c (is_of_client c x) x (xs ++ a ∷ [])
    ∙ (ap (λ ks. if is_of_client c x then ask_key x ∷ ks else ks) (keys_last c xs a)
    ∙ (turned (is_of_client c x) (is_of_client c a)
    ∙ ap (λ ks. if is_of_client c a then ks ++ ask_key a ∷ [] else ks) (sym (key_if c (is_of_client c x) x xs))))
  where
    turned : (b e : Bool) →
        (if b then ask_key x ∷ (if e then keys c xs ++ ask_key a ∷ [] else keys c xs) else (if e then keys c xs ++ ask_key a ∷ [] else keys c xs))
        ≡ (if e then (if b then ask_key x ∷ keys c xs else keys c xs) ++ ask_key a ∷ [] else (if b then ask_key x ∷ keys c xs else keys c xs))
    turned true true = refl
    turned true false = refl
    turned false true = refl
    turned false false = refl

-- of three numbers, the second and the third are the same, or not
first_too : (a b c : ℕ) → (b == c) ≡ true → (a == c) ≡ true → (a == b) ≡ true
first_too a b c e f = eq-eqb a b (eqb-true a c f ∙ sym (eqb-true b c e))

first_not : (a b c : ℕ) → (b == c) ≡ false → (a == c) ≡ true → (a == b) ≡ false
first_not a b c e f = ne_eqb a b (λ q. both_ways (b == c) e (ap (λ n. n == c) (sym q) ∙ f))

abbrev closes : ClientId → ℕ → Pending → Bool
closes d op b = not (is_ask d op b)

keys_mine : (c : ClientId) (x : Pending) (xs : List Pending) → is_of_client c x ≡ true → keys c (x ∷ xs) ≡ ask_key x ∷ keys c xs
keys_mine c x xs q = key_if c (is_of_client c x) x xs ∙ if_true (is_of_client c x) (ask_key x ∷ keys c xs) (keys c xs) q

keys_others : (c : ClientId) (x : Pending) (xs : List Pending) → is_of_client c x ≡ false → keys c (x ∷ xs) ≡ keys c xs
keys_others c x xs q = key_if c (is_of_client c x) x xs ∙ if_false (is_of_client c x) (ask_key x ∷ keys c xs) (keys c xs) q

-- if the test of the first one is decided
keys_first : (c : ClientId) (test : Pending → Bool) (x : Pending) (xs : List Pending) (b : Bool) → test x ≡ b →
    keys c (filter test (x ∷ xs)) ≡ keys c (if b then x ∷ filter test xs else filter test xs)
keys_first c test x xs b q = ap (λ z. keys c (if z then x ∷ filter test xs else filter test xs)) q

-- another client's ask, kept or not
keys_either : (c : ClientId) (x : Pending) (xs : List Pending) (b : Bool) → is_of_client c x ≡ false → keys c (if b then x ∷ xs else xs) ≡ keys c xs
keys_either c x xs true q = keys_others c x xs q
keys_either c x xs false q = refl

keys_closed : (c d : ClientId) (op : ℕ) (xs : List Pending) → keys c (filter (closes d op) xs) ≡ (if d.0 == c.0 then without_ask op (keys c xs) else keys c xs)
keys_closed c d op [] = none (d.0 == c.0)
  where
    none : (b : Bool) → ◌≡◌ {A = List (ℕ × Ask)} [] (if b then [] else [])
    none true = refl
    none false = refl
keys_closed c d op (x ∷ xs) = go (is_of_client c x) refl (d.0 == c.0) refl (keys_closed c d op xs)
  where
    -- an ask of the client that is closed, or another one of it
    own : (r : Bool) → (x.op == op) ≡ r → is_of_client c x ≡ true → (d.0 == c.0) ≡ true → keys c (filter (closes d op) xs) ≡ without_ask op (keys c xs) →
        keys c (filter (closes d op) (x ∷ xs)) ≡ without_ask op (ask_key x ∷ keys c xs)
    own true r q f h =
        keys_first c (closes d op) x xs false (ap (λ b. not (b && (x.op == op))) (first_too x.client.0 d.0 c.0 f q) ∙ ap not r)
        ∙ (h ∙ sym (if_false (not (x.op == op)) (ask_key x ∷ without_ask op (keys c xs)) (without_ask op (keys c xs)) (ap not r)))
    own false r q f h =
        keys_first c (closes d op) x xs true (ap (λ b. not (b && (x.op == op))) (first_too x.client.0 d.0 c.0 f q) ∙ ap not r)
        ∙ (keys_mine c x (filter (closes d op) xs) q
        ∙ (ap (λ ks. ask_key x ∷ ks) h ∙ sym (if_true (not (x.op == op)) (ask_key x ∷ without_ask op (keys c xs)) (without_ask op (keys c xs)) (ap not r))))

    go : (q : Bool) → is_of_client c x ≡ q → (e : Bool) → (d.0 == c.0) ≡ e →
        keys c (filter (closes d op) xs) ≡ (if e then without_ask op (keys c xs) else keys c xs) →
        keys c (filter (closes d op) (x ∷ xs)) ≡ (if e then without_ask op (keys c (x ∷ xs)) else keys c (x ∷ xs))
    go false q e f h =
        keys_either c x (filter (closes d op) xs) (closes d op x) q ∙ (h ∙ ap (λ ks. if e then without_ask op ks else ks) (sym (keys_others c x xs q)))
    go true q true f h = own (x.op == op) refl q f h ∙ ap (without_ask op) (sym (keys_mine c x xs q))
    go true q false f h =
        keys_first c (closes d op) x xs true (ap (λ b. not (b && (x.op == op))) (first_not x.client.0 d.0 c.0 f q))
        ∙ (keys_mine c x (filter (closes d op) xs) q ∙ (ap (λ ks. ask_key x ∷ ks) h ∙ sym (keys_mine c x xs q)))

-- without the asks of a client
keys_crashed : (c d : ClientId) (xs : List Pending) → keys c (filter (λ a. not (is_of_client d a)) xs) ≡ (if d.0 == c.0 then [] else keys c xs)
keys_crashed c d [] = none (d.0 == c.0)
  where
    none : (b : Bool) → ◌≡◌ {A = List (ℕ × Ask)} [] (if b then [] else [])
    none true = refl
    none false = refl
keys_crashed c d (x ∷ xs) = go (is_of_client c x) refl (d.0 == c.0) refl (keys_crashed c d xs)
  where
    go : (q : Bool) → is_of_client c x ≡ q → (e : Bool) → (d.0 == c.0) ≡ e →
        keys c (filter (λ a. not (is_of_client d a)) xs) ≡ (if e then [] else keys c xs) →
        keys c (filter (λ a. not (is_of_client d a)) (x ∷ xs)) ≡ (if e then [] else keys c (x ∷ xs))
    go false q e f h =
        keys_either c x (filter (λ a. not (is_of_client d a)) xs) (not (is_of_client d x)) q
        ∙ (h ∙ ap (λ ks. if e then [] else ks) (sym (keys_others c x xs q)))
    go true q true f h = keys_first c (λ a. not (is_of_client d a)) x xs false (ap not (first_too x.client.0 d.0 c.0 f q)) ∙ h
    go true q false f h =
        keys_first c (λ a. not (is_of_client d a)) x xs true (ap not (first_not x.client.0 d.0 c.0 f q))
        ∙ (keys_mine c x (filter (λ a. not (is_of_client d a)) xs) q ∙ (ap (λ ks. ask_key x ∷ ks) h ∙ sym (keys_mine c x xs q)))

-- how often a client was asked
abbrev asked_by : ClientId → List (ClientId × FileId) → ℕ
asked_by c xs = length (filter (λ x. x.0.0 == c.0) xs)

-- A volume with the same asks of a client.
abbrev Same : ClientId → Volume → Volume → Type 0
Same c v u = in_volume u c ≡ in_volume v c

by_parts : (c : ClientId) (v u : Volume) → u.asked ≡ v.asked → keys c u.pending ≡ keys c v.pending → Same c v u
by_parts c v u a k = ap (λ xs. asks_as (asked_by c xs) (keys c u.pending)) a ∙ ap (asks_as (asked_by c v.asked)) k

noticed : (c : ClientId) (v : Volume) → Same c v (notice v)
noticed c v = by_parts c v (notice v) refl (keys_mapped c (noticing v) (λ a. record { client = refl; op = refl; ask = refl }) v.pending)

-- Effects.
pub record Kept (v u : Volume) : Type 0 where
  pub pending : u.pending ≡ v.pending
  pub asked : u.asked ≡ v.asked

abbrev pub Leaves : Volume → Volume × AppAnswer → Type 0
Leaves v r = Kept v r.0

joins : (v : Volume) (f : FileId) (e : Entry) → OnSome (Kept v) (with_entry v f e)
joins v f e = on_if (Kept v) _ (Some (record v { log = v.log ++ e ∷ [] })) (record { pending = refl; asked = refl })

cut_keeps : (v : Volume) (c : ClientId) (f : FileId) (p : PageNo) → OnSome (Kept v) (cuts v c f p)
cut_keeps v c f p =
    on_if (Kept v) _ (Some (record v { claims = freed v (asks.Cut f p); log = v.log ++ entry c (asks.Cut f p) fates.Hard ∷ [] }))
    (record { pending = refl; asked = refl })

removal_keeps : (v : Volume) (c : ClientId) (s : ServerId) (removed : Option ℕ) → OnSome (Kept v) (cuts_removed v c s removed)
removal_keeps v c s None = record { pending = refl; asked = refl }
removal_keeps v c s (Some ino) = cut_keeps v c (record { server = s; ino = ino }) (record { 0 = 0 })

result_keeps : (v : Volume) (answer : AppAnswer) (o : Option Volume) → OnSome (Kept v) o → OnSome (Leaves v) (option_map (λ w. (w, answer)) o)
result_keeps v answer o h = on_map (Leaves v) (λ w. (w, answer)) o h

made_keeps : (v : Volume) (c : ClientId) (s : ServerId) (m : Made) → OnSome (Leaves v) (made v c s m)
made_keeps v c s (t, (answer, removed)) =
    result_keeps v answer _
    (on_map (Kept v) (with_tree s t) (cuts_removed v c s removed)
    (on_more (Kept v) (λ w. Kept v (with_tree s t w)) (λ w k. record { pending = k.pending; asked = k.asked }) (cuts_removed v c s removed)
    (removal_keeps v c s removed)))

pub effect_keeps : (v : Volume) (c : ClientId) (ask : Ask) → OnSome (Leaves v) (effect v c ask)
effect_keeps v c (asks.Write f p bytes) = result_keeps v answers.Written _ (joins v f (entry c (asks.Write f p bytes) fates.Open))
effect_keeps v c (asks.Patch f p at bytes) = result_keeps v answers.Written _ (joins v f (entry c (asks.Patch f p at bytes) fates.Open))
effect_keeps v c (asks.Read f p) = tt
effect_keeps v c (asks.Sync f) = tt
effect_keeps v c (asks.Cut f p) = result_keeps v answers.Cut _ (cut_keeps v c f p)
effect_keeps v c (asks.Name s ask) = on_then (Leaves v) (made v c s) _ (on_all _ (λ m. made_keeps v c s m) _)

resulted : (a : Pending) (answer : AppAnswer) (b : Pending) → IsAskLike b (resulting a answer b)
resulted a answer b = go (is_ask a.client a.op b)
  where
    go : (t : Bool) → IsAskLike b (if t then record b { result = Some answer } else b)
    go true = record { client = refl; op = refl; ask = refl }
    go false = ask_self b

done_keeps : (c : ClientId) (v : Volume) (a : Pending) (r : Volume × AppAnswer) → Kept v r.0 → Same c v (notice (done a r))
done_keeps c v a r k =
    noticed c (done a r)
    ∙ by_parts c v (done a r) k.asked (keys_mapped c (resulting a r.1) (resulted a r.1) r.0.pending ∙ ap (keys c) k.pending)

takes_keeps : (c : ClientId) (v : Volume) (a : Pending) → OnSome (λ u. Same c v (notice u)) (takes v a)
takes_keeps c v a =
    on_else (λ u. Same c v (notice u)) _ _
    (on_map (λ u. Same c v (notice u)) (done a) (effect v a.client a.ask)
    (on_more (Leaves v) (λ r. Same c v (notice (done a r))) (λ r k. done_keeps c v a r k) (effect v a.client a.ask) (effect_keeps v a.client a.ask)))

-- Answers.
pub after_keeps : (v : Volume) (a : Pending) (answer : AppAnswer) → Kept v (after_answer v a answer)
after_keeps v a answers.Hard = record { pending = refl; asked = refl }
after_keeps v a (answers.Lost rows) = record { pending = refl; asked = refl }
after_keeps v a (answers.Read bytes) = record { pending = refl; asked = refl }
after_keeps v a (answers.Uncertain old zero) = record { pending = refl; asked = refl }
after_keeps v a (answers.Uncertain old (suc new)) = record { pending = refl; asked = refl }
after_keeps v a answers.Written = record { pending = refl; asked = refl }
after_keeps v a answers.Cut = record { pending = refl; asked = refl }
after_keeps v a answers.Quiesced = record { pending = refl; asked = refl }
after_keeps v a answers.NoFile = record { pending = refl; asked = refl }
after_keeps v a (answers.NoSpace n m) = record { pending = refl; asked = refl }
after_keeps v a (answers.DiskFault n) = record { pending = refl; asked = refl }
after_keeps v a answers.OpsFull = record { pending = refl; asked = refl }
after_keeps v a answers.DirtyFull = record { pending = refl; asked = refl }
after_keeps v a answers.NotHolder = record { pending = refl; asked = refl }
after_keeps v a answers.TooManyLocks = record { pending = refl; asked = refl }
after_keeps v a (answers.Named ino) = record { pending = refl; asked = refl }
after_keeps v a (answers.Listed rows) = record { pending = refl; asked = refl }
after_keeps v a (answers.Refused code) = record { pending = refl; asked = refl }

abbrev Told : ClientId → VolumeStep → Volume → Volume → Type 0
Told c it v u = in_volume u c ≡ told_by c it (in_volume v c)

-- a client's asks by a test
chosen : (c : ClientId) (v : Volume) (ks : List (ℕ × Ask)) (b : Bool) →
    asks_as (asked_by c v.asked) (if b then ks else keys c v.pending) ≡ (if b then asks_as (asked_by c v.asked) ks else in_volume v c)
chosen c v ks true = refl
chosen c v ks false = refl

closed_tells : (c d : ClientId) (op : ℕ) (answer : AppAnswer) (v w : Volume) (a : Pending) → Kept v w → a.client.0 ≡ d.0 → a.op ≡ op →
    Told c (steps.Answered d op answer) v (closed a w)
closed_tells c d op answer v w a k e f =
    by_parts c (record v { pending = filter (closes d op) v.pending }) (closed a w) k.asked
    (ap (λ (m : ℕ). keys c (filter (closes (record { 0 = m }) a.op) w.pending)) e
    ∙ (ap (λ (m : ℕ). keys c (filter (closes d m) w.pending)) f
    ∙ ap (λ xs. keys c (filter (closes d op) xs)) k.pending))
    ∙ (ap (asks_as (asked_by c v.asked)) (keys_closed c d op v.pending)
    ∙ chosen c v (without_ask op (keys c v.pending)) (d.0 == c.0))

answered_tells : (c d : ClientId) (op : ℕ) (answer : AppAnswer) (v : Volume) (a : Pending) → is_ask d op a ≡ true →
    OnSome (Told c (steps.Answered d op answer) v) (answered v answer a)
answered_tells c d op answer v a t =
    let b = and_true (is_of_client d a) (a.op == op) t in
    on_if (Told c (steps.Answered d op answer) v) _ (Some (closed a (after_answer v a answer)))
    (closed_tells c d op answer v (after_answer v a answer) a (after_keeps v a answer) (eqb-true _ _ b.0) (eqb-true _ _ b.1))

found_answered : (c d : ClientId) (op : ℕ) (answer : AppAnswer) (v : Volume) →
    OnSome (Told c (steps.Answered d op answer) v) (option_and_then (answered v answer) (find (is_ask d op) v.pending))
found_answered c d op answer v = go (find (is_ask d op) v.pending) refl
  where
    go : (o : Option Pending) → find (is_ask d op) v.pending ≡ o → OnSome (Told c (steps.Answered d op answer) v) (option_and_then (answered v answer) o)
    go None q = tt
    go (Some a) q = answered_tells c d op answer v a (found_at (is_ask d op) v.pending a q).0

-- An ask.
pub asked_tells : (c d : ClientId) (ask : Ask) (v : Volume) → Told c (steps.Asked d ask) v (notice (arrived v d ask))
asked_tells c d ask v =
    noticed c (arrived v d ask)
    ∙ (ap (asks_as (asked_by c (asked_of d ask ∷ v.asked))) (keys_last c v.pending (new_ask v d ask))
    ∙ go (d.0 == c.0) refl)
  where
    go : (b : Bool) → (d.0 == c.0) ≡ b →
        asks_as (length (if b then asked_of d ask ∷ filter (λ x. x.0.0 == c.0) v.asked else filter (λ x. x.0.0 == c.0) v.asked))
        (if b then keys c v.pending ++ key_by (asked_by d v.asked + 1) ask ∷ [] else keys c v.pending)
        ≡ (if b then asked_once ask (in_volume v c) else in_volume v c)
    go true q =
        ap (λ n. asks_as n (keys c v.pending ++ key_by (asked_by d v.asked + 1) ask ∷ [])) (sym (suc_is (asked_by c v.asked)))
        ∙ ap (λ (m : ℕ). asks_as (asked_by c v.asked + 1) (keys c v.pending ++ key_by (length (filter (λ x. x.0.0 == m) v.asked) + 1) ask ∷ []))
        (eqb-true d.0 c.0 q)
    go false q = refl

-- Each step.
failed_like : (d : ClientId) (number : ℕ) (test : Ask → Bool) (a : Pending) → IsAskLike a (fails d number test a)
failed_like d number test a = go (is_of_client d a && test a.ask)
  where
    go : (t : Bool) → IsAskLike a (if t then record a { faults = number ∷ a.faults } else a)
    go true = record { client = refl; op = refl; ask = refl }
    go false = ask_self a

failing_keeps : (c d : ClientId) (number : ℕ) (test : Ask → Bool) (v : Volume) → Same c v (failing v d number test)
failing_keeps c d number test v = by_parts c v (failing v d number test) refl (keys_mapped c (fails d number test) (failed_like d number test) v.pending)

fate_keeps : (c : ClientId) (v : Volume) (i : ℕ) (test : Entry → Bool) (fate : Fate) → OnSome (Same c v) (with_fate v i test fate)
fate_keeps c v i test fate =
    on_map (Same c v) (with_changed v i) (option_and_then (ends test fate) (numbered v.log i))
    (on_all (λ e. Same c v (with_changed v i e)) (λ e. refl) (option_and_then (ends test fate) (numbered v.log i)))

crash_tells : (c d : ClientId) (v : Volume) → Told c (steps.Crashed d) v (crashed v d)
crash_tells c d v = ap (asks_as (asked_by c v.asked)) (keys_crashed c d v.pending) ∙ chosen c v [] (d.0 == c.0)

acts_tell : (c : ClientId) (v : Volume) (it : VolumeStep) → OnSome (Told c it v) (acts v it)
acts_tell c v (steps.Asked d ask) = on_if (Told c (steps.Asked d ask) v) _ (Some (notice (arrived v d ask))) (asked_tells c d ask v)
acts_tell c v (steps.TakesEffect d op) =
    on_map (Same c v) notice (option_and_then (takes v) (find (is_ask d op) (v.pending ++ v.orphans)))
    (on_then (λ u. Same c v (notice u)) (takes v) (find (is_ask d op) (v.pending ++ v.orphans))
    (on_all (λ a. OnSome (λ u. Same c v (notice u)) (takes v a)) (λ a. takes_keeps c v a) (find (is_ask d op) (v.pending ++ v.orphans))))
acts_tell c v (steps.Answered d op answer) = found_answered c d op answer v
acts_tell c v (steps.Hardened i) = fate_keeps c v i (λ e. true) fates.Hard
acts_tell c v (steps.Dropped i cause) = fate_keeps c v i (is_cause cause) fates.Dropped
acts_tell c v (steps.Crashed d) = crash_tells c d v
acts_tell c v (steps.Restarted s) = refl
acts_tell c v (steps.WriteFailed d number i) =
    on_map (Same c v) (failed v d number i) _
    (on_all (λ x. Same c v (failed v d number i x)) (λ x. failing_keeps c d number (is_sync_of x.0) (record v { log = failed_up_to i d number x v.log })) _)
acts_tell c v (steps.ReadFailed d s number) = failing_keeps c d number (is_read_of s) v
acts_tell c v (steps.Joined i d what) = tt

step_tells : (c : ClientId) (v : Volume) (it : VolumeStep) → OnSome (Told c it v) (step v it)
step_tells c v (steps.Joined i d what) = on_if (Same c v) _ (Some (record v { lines = i })) refl
step_tells c v (steps.Asked d ask) =
    on_if (Told c (steps.Asked d ask) v) (v.lines == length v.log) (acts v (steps.Asked d ask)) (acts_tell c v (steps.Asked d ask))
step_tells c v (steps.TakesEffect d op) =
    on_if (Told c (steps.TakesEffect d op) v) (v.lines == length v.log) (acts v (steps.TakesEffect d op)) (acts_tell c v (steps.TakesEffect d op))
step_tells c v (steps.Answered d op answer) =
    on_if (Told c (steps.Answered d op answer) v) (v.lines == length v.log) (acts v (steps.Answered d op answer)) (acts_tell c v (steps.Answered d op answer))
step_tells c v (steps.Hardened i) = on_if (Told c (steps.Hardened i) v) (v.lines == length v.log) (acts v (steps.Hardened i)) (acts_tell c v (steps.Hardened i))
step_tells c v (steps.Dropped i cause) =
    on_if (Told c (steps.Dropped i cause) v) (v.lines == length v.log) (acts v (steps.Dropped i cause)) (acts_tell c v (steps.Dropped i cause))
step_tells c v (steps.Crashed d) = on_if (Told c (steps.Crashed d) v) (v.lines == length v.log) (acts v (steps.Crashed d)) (acts_tell c v (steps.Crashed d))
step_tells c v (steps.Restarted s) =
    on_if (Told c (steps.Restarted s) v) (v.lines == length v.log) (acts v (steps.Restarted s)) (acts_tell c v (steps.Restarted s))
step_tells c v (steps.WriteFailed d number i) =
    on_if (Told c (steps.WriteFailed d number i) v) (v.lines == length v.log) (acts v (steps.WriteFailed d number i))
    (acts_tell c v (steps.WriteFailed d number i))
step_tells c v (steps.ReadFailed d s number) =
    on_if (Told c (steps.ReadFailed d s number) v) (v.lines == length v.log) (acts v (steps.ReadFailed d s number))
    (acts_tell c v (steps.ReadFailed d s number))

-- Steps in order.
pub run_tells : (c : ClientId) (its : List VolumeStep) (v : Volume) → OnSome (λ u. in_volume u c ≡ told_all c its (in_volume v c)) (run its v)
unfolding run
run_tells c [] v = refl
run_tells c (it ∷ its) v =
    on_then (λ z. in_volume z c ≡ told_all c its (told_by c it (in_volume v c))) (run its) (step v it)
    (on_more (Told c it v) (λ u. OnSome (λ z. in_volume z c ≡ told_all c its (told_by c it (in_volume v c))) (run its u))
    (λ u k. on_more (λ z. in_volume z c ≡ told_all c its (in_volume u c)) (λ z. in_volume z c ≡ told_all c its (told_by c it (in_volume v c)))
    (λ z q. q ∙ ap (told_all c its) k) (run its u) (run_tells c its u))
    (step v it) (step_tells c v it))
