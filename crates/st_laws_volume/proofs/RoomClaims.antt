-- In the volume room stays wanted for a page until a cut of it joins the log; and it is wanted for
-- the page of each open ask.
use Rattle.st_lemmas.proofs.Words
use Words.{◌≡◌, ◌⊎◌, ℕ, zero, suc, Bool, true, false, not, ◌&&◌, ◌||◌, ◌==◌, List, [], ◌∷◌, ◌++◌, length, map, filter, filter_map, Option, Some, None, refl, sym, ap, ◌∙◌, subst, inl, inr}
use Words.{append_assoc, slice_get, append-nil, map-append, eqb-true, find, list_any, nat_le, option_map, option_and_then, if◌then◌else◌, FileId, PageNo, ClientId, ServerId, Ask, AppAnswer}
use Words.asks
use Words.answers
use Words.Lists.{Has}
use Words.Lookups.{or_left, some_is}
use Words.Members.{has_filter_map, has_left, has_right, some_member_passes}
use Words.Tables.{and_true, has_append, has_filter, has_filter_in, has_map, has_map_in, some_passes}
use Rattle.std.specs.Prelude.{set}
use Rattle.st_laws_volume.specs.Options.{OnSome}
use Rattle.st_laws_volume.proofs.LogLines.{numbered_suc}
use Rattle.st_laws_volume.proofs.Options.{on_all, on_else, on_if, on_map, on_more, on_then}
use Rattle.st_volume.specs.declared.step.Fate.{Fate}
use Rattle.st_volume.specs.declared.step.Fate.TheVariants as fates
use Rattle.st_volume.specs.declared.step.VolumeStep.{VolumeStep}
use Rattle.st_volume.specs.declared.step.VolumeStep.TheVariants as steps
use Rattle.st_volume.specs.Pages.{Entry, failed_up_to, is_cause, is_open, is_by_at, place_of, same_file, same_place, touches}
use Rattle.st_volume.specs.Trees.{Made}
use Rattle.st_volume.specs.Volume as volume
use Rattle.st_volume.specs.Volume.{Volume, Pending, acts, after_answer, answered, arrived, closed, crash_of, cuts, cuts_removed, distinct, done, effect, ends, entry, failed, fails, failing, freed, is_ask, made, new_ask, notice, noticing, numbered, resulting, run, step, takes, with_changed, with_entry, with_fate, with_places, with_tree}

abbrev pub Place : Type 0
Place = FileId × PageNo

-- What the entries of a log are.
abbrev pub what_of : Entry → Ask
what_of e = e.what

abbrev pub whats : List Entry → List Ask
whats es = map what_of es

-- an ask cuts this page
abbrev pub cuts_place : Place → Ask → Bool
cuts_place x (asks.Cut f p) = touches x (asks.Cut f p)
cuts_place x ask = false

-- room is wanted for the page of each open ask
abbrev pub OpenWanted : Volume → Type 0
OpenWanted v = (a : Pending) → Has a v.pending → (x : Place) → place_of a.ask ≡ Some x →
    Has x v.claims

-- Entries joined the log, and room is wanted as before, except for the pages that these cut.
pub record Grown (v u : Volume) : Type 0 where
  pub more : List Ask
  pub log : whats u.log ≡ whats v.log ++ more
  pub kept : (x : Place) → Has x v.claims → Has x u.claims ⊎ (list_any (cuts_place x) more ≡ true)

pub record Goes (v u : Volume) : Type 0 where
  pub grown : Grown v u
  pub open_ : OpenWanted v → OpenWanted u

-- Places
pub place_is : (x y : Place) → same_place x y ≡ true → x ≡ y
place_is x y e =
    let z = and_true (same_file x.0 y.0) (x.1.0 == y.1.0) e in
    let f = and_true (x.0.server.0 == y.0.server.0) (x.0.ino == y.0.ino) z.0 in
    ap (λ (n : ℕ). (record { server = record { 0 = n }; ino = x.0.ino }, x.1))
    (eqb-true x.0.server.0 y.0.server.0 f.0)
    ∙ (ap (λ (n : ℕ). (record { server = y.0.server; ino = n }, x.1)) (eqb-true x.0.ino y.0.ino f.1)
    ∙ ap (λ (n : ℕ). (y.0, record { 0 = n })) (eqb-true x.1.0 y.1.0 z.1))

pub in_distinct : (xs : List Place) (x : Place) → Has x xs → Has x (distinct same_place xs)
unfolding distinct
in_distinct [] x h = h
in_distinct (y ∷ ys) x h = go (list_any (same_place y) ys) refl h (in_distinct ys x)
  where
    go : (b : Bool) → list_any (same_place y) ys ≡ b → (x ≡ y) ⊎ Has x ys →
        (Has x ys → Has x (distinct same_place ys)) →
        Has x ((if b then [] else y ∷ []) ++ distinct same_place ys)
    go true q (inr i) k = k i
    go true q (inl e) k =
        let z = some_member_passes (same_place y) ys q in
        k (subst (λ (w : Place). Has w ys) (sym (e ∙ place_is y z.0 z.2)) z.1)
    go false q (inr i) k = inr (k i)
    go false q (inl e) k = inl e

in_places : (os : List Ask) (xs : List Place) (x : Place) → Has x xs → Has x (with_places os xs)
in_places os xs x h = in_distinct (filter_map place_of os ++ xs) x
    (has_right (filter_map place_of os) xs x h)

ask_places : (os : List Ask) (xs : List Place) (o : Ask) (x : Place) → Has o os →
    place_of o ≡ Some x → Has x (with_places os xs)
ask_places os xs o x i e = in_distinct (filter_map place_of os ++ xs) x
    (has_left (filter_map place_of os) xs x (has_filter_map place_of os o x i e))

-- if an ask of the first list passes, so does an ask of both
any_left : (test : Ask → Bool) (xs ys : List Ask) → list_any test xs ≡ true →
    list_any test (xs ++ ys) ≡ true
any_left test xs ys h = let z = some_member_passes test xs h in
    some_passes test (xs ++ ys) z.0 (has_left xs ys z.0 z.1) z.2

any_right : (test : Ask → Bool) (xs ys : List Ask) → list_any test ys ≡ true →
    list_any test (xs ++ ys) ≡ true
any_right test xs ys h = let z = some_member_passes test ys h in
    some_passes test (xs ++ ys) z.0 (has_right xs ys z.0 z.1) z.2

pub goes_then : (v u w : Volume) → Goes v u → Goes u w → Goes v w
goes_then v u w a b =
    record {
      grown =
          record {
            more = a.grown.more ++ b.grown.more;
            log = b.grown.log ∙
                (ap (λ xs. xs ++ b.grown.more) a.grown.log ∙
                append_assoc (whats v.log) a.grown.more b.grown.more);
            kept = λ x i. go x (a.grown.kept x i);
          };
      open_ = λ h. b.open_ (a.open_ h);
    }
  where
    go : (x : Place) → Has x u.claims ⊎ (list_any (cuts_place x) a.grown.more ≡ true) →
        Has x w.claims ⊎ (list_any (cuts_place x) (a.grown.more ++ b.grown.more) ≡ true)
    go x (inr q) = inr (any_left (cuts_place x) a.grown.more b.grown.more q)
    go x (inl i) = by (b.grown.kept x i)
      where
        by : Has x w.claims ⊎ (list_any (cuts_place x) b.grown.more ≡ true) →
            Has x w.claims ⊎ (list_any (cuts_place x) (a.grown.more ++ b.grown.more) ≡ true)
        by (inl j) = inl j
        by (inr q) = inr (any_right (cuts_place x) a.grown.more b.grown.more q)

-- the same entries, the same room, and no other open asks
alike : (v u : Volume) → whats u.log ≡ whats v.log → u.claims ≡ v.claims →
    ((a : Pending) → Has a u.pending → (b : Pending) × Has b v.pending × (a.ask ≡ b.ask)) → Goes v u
alike v u l c p =
    record {
      grown = record {
        more = [];
        log = l ∙ sym (append-nil (whats v.log));
        kept =
            λ x i. inl (subst (Has x) (sym c) i);
      };
      open_ = λ h a i x e. let z = p a i in
          subst (Has x) (sym c) (h z.0 z.1 x (ap place_of (sym z.2) ∙ e));
    }

pub goes_self : (v : Volume) → Goes v v
goes_self v = alike v v refl refl (λ a i. (a, i, refl))

same_asks : (ps : List Pending) (f : Pending → Pending) → ((a : Pending) → (f a).ask ≡ a.ask) →
    (a : Pending) → Has a (map f ps) →
    (b : Pending) × Has b ps × (a.ask ≡ b.ask)
same_asks ps f h a i = let z = has_map f ps a i in
    (z.0, z.1, ap (λ (y : Pending). y.ask) z.2 ∙ h z.0)

noticed : (v : Volume) → Goes v (notice v)
noticed v = alike v (notice v) refl refl (same_asks v.pending (noticing v) (λ a. refl))

-- Effects.
joins : (v : Volume) (f : FileId) (e : Entry) → OnSome (Goes v) (with_entry v f e)
joins v f e =
    on_if (Goes v) _ (Some (record v { log = v.log ++ e ∷ [] }))
    (record {
      grown = record
          { more = e.what ∷ []; log = map-append what_of v.log (e ∷ []); kept = λ x i. inl i };
      open_ = λ h. h;
    })

cut_goes : (v : Volume) (c : ClientId) (f : FileId) (p : PageNo) → OnSome (Goes v) (cuts v c f p)
cut_goes v c f p =
    on_if (Goes v) _
    (Some (record v { claims = freed v cut; log = v.log ++ entry c cut fates.Hard ∷ [] }))
    (record {
      grown =
          record {
            more = cut ∷ [];
            log = map-append what_of v.log (entry c cut fates.Hard ∷ []);
            kept = λ x i. go x i (touches x cut) refl;
          };
      open_ =
          λ h a i x e.
          ask_places (map (λ b. b.ask) v.pending) (filter (λ y. not (touches y cut)) v.claims) a.ask
          x
          (has_map_in (λ (b : Pending). b.ask) v.pending a i) e;
    })
  where
    cut : Ask
    cut = asks.Cut f p

    go : (x : Place) → Has x v.claims → (b : Bool) → touches x (asks.Cut f p) ≡ b →
        Has x (freed v (asks.Cut f p)) ⊎ (list_any (cuts_place x) (asks.Cut f p ∷ []) ≡ true)
    go x i true q = inr (or_left (touches x (asks.Cut f p)) false q)
    go x i false q =
        inl (in_places (map (λ b. b.ask) v.pending)
        (filter (λ y. not (touches y (asks.Cut f p))) v.claims) x
        (has_filter_in (λ y. not (touches y (asks.Cut f p))) v.claims x i (ap not q)))

removal_goes : (v : Volume) (c : ClientId) (s : ServerId) (removed : Option ℕ) →
    OnSome (Goes v) (cuts_removed v c s removed)
removal_goes v c s None = goes_self v
removal_goes v c s (Some ino) = cut_goes v c (record { server = s; ino = ino }) (record { 0 = 0 })

abbrev Leaves : Volume → Volume × AppAnswer → Type 0
Leaves v r = Goes v r.0

result_goes : (v : Volume) (answer : AppAnswer) (o : Option Volume) → OnSome (Goes v) o →
    OnSome (Leaves v) (option_map (λ w. (w, answer)) o)
result_goes v answer o h = on_map (Leaves v) (λ w. (w, answer)) o h

made_goes : (v : Volume) (c : ClientId) (s : ServerId) (m : Made) → OnSome (Leaves v) (made v c s m)
made_goes v c s (t, (answer, removed)) =
    result_goes v answer _
    (on_map (Goes v) (with_tree s t) (cuts_removed v c s removed)
    (on_more (Goes v) (λ w. Goes v (with_tree s t w))
    (λ w k. goes_then v w (with_tree s t w) k
    (alike w (with_tree s t w) refl refl (λ a i. (a, i, refl)))) (cuts_removed v c s removed)
    (removal_goes v c s removed)))

effect_goes : (v : Volume) (c : ClientId) (ask : Ask) → OnSome (Leaves v) (effect v c ask)
effect_goes v c (asks.Write f p bytes) =
    result_goes v answers.Written _ (joins v f (entry c (asks.Write f p bytes) fates.Open))
effect_goes v c (asks.Patch f p at bytes) =
    result_goes v answers.Written _ (joins v f (entry c (asks.Patch f p at bytes) fates.Open))
effect_goes v c (asks.Read f p) = tt
effect_goes v c (asks.Sync f) = tt
effect_goes v c (asks.Cut f p) = result_goes v answers.Cut _ (cut_goes v c f p)
effect_goes v c (asks.Name s ask) =
    on_then (Leaves v) (made v c s) _ (on_all _ (λ m. made_goes v c s m) _)

result_kept : (a : Pending) (answer : AppAnswer) (b : Pending) → (resulting a answer b).ask ≡ b.ask
result_kept a answer b = go (is_ask a.client a.op b)
  where
    go : (k : Bool) → (if k then record b { result = Some answer } else b).ask ≡ b.ask
    go true = refl
    go false = refl

takes_goes : (v : Volume) (a : Pending) → OnSome (λ u. Goes v (notice u)) (takes v a)
takes_goes v a =
    on_else (λ u. Goes v (notice u)) _ _
    (on_map (λ u. Goes v (notice u)) (done a) (effect v a.client a.ask)
    (on_more (Leaves v) (λ r. Goes v (notice (done a r))) (λ r k. by r k) (effect v a.client a.ask)
    (effect_goes v a.client a.ask)))
  where
    by : (r : Volume × AppAnswer) → Leaves v r → Goes v (notice (done a r))
    by (u, answer) k =
        goes_then v u (notice (done a (u, answer))) k
        (goes_then u (done a (u, answer)) (notice (done a (u, answer)))
        (alike u (done a (u, answer)) refl refl
        (same_asks u.pending (resulting a answer) (result_kept a answer)))
        (noticed (done a (u, answer))))

-- Answers.
marked : (v : Volume) (f : Entry → Entry) → ((e : Entry) → (f e).what ≡ e.what) →
    Goes v (record v { log = map f v.log })
marked v f h = alike v (record v { log = map f v.log }) (go v.log) refl (λ a i. (a, i, refl))
  where
    go : (es : List Entry) → whats (map f es) ≡ whats es
    go [] = refl
    go (e ∷ es) = ap (λ w. w ∷ whats (map f es)) (h e) ∙ ap (λ ws. e.what ∷ ws) (go es)

after_goes : (v : Volume) (a : Pending) (answer : AppAnswer) → Goes v (after_answer v a answer)
after_goes v a answers.Hard = marked v _ (λ e. refl)
after_goes v a (answers.Lost rows) = marked v _ (λ e. refl)
after_goes v a (answers.Read bytes) =
    alike v (after_answer v a (answers.Read bytes)) refl refl (λ b i. (b, i, refl))
after_goes v a (answers.Uncertain old zero) =
    alike v (after_answer v a (answers.Uncertain old zero)) refl refl (λ b i. (b, i, refl))
after_goes v a (answers.Uncertain old (suc new)) = goes_self v
after_goes v a answers.Written = goes_self v
after_goes v a answers.Cut = goes_self v
after_goes v a answers.Quiesced = goes_self v
after_goes v a answers.NoFile = goes_self v
after_goes v a (answers.NoSpace n m) = goes_self v
after_goes v a (answers.DiskFault n) = goes_self v
after_goes v a answers.OpsFull = goes_self v
after_goes v a answers.DirtyFull = goes_self v
after_goes v a answers.NotHolder = goes_self v
after_goes v a answers.TooManyLocks = goes_self v
after_goes v a (answers.Named ino) = goes_self v
after_goes v a (answers.Listed rows) = goes_self v
after_goes v a (answers.Refused code) = goes_self v

answer_goes : (v : Volume) (a : Pending) (answer : AppAnswer) →
    Goes v (closed a (after_answer v a answer))
answer_goes v a answer =
    let u = after_answer v a answer in
    goes_then v u (closed a u) (after_goes v a answer)
    (alike u (closed a u) refl refl
    (λ b i. (b, (has_filter (λ b. not (is_ask a.client a.op b)) u.pending b i).0, refl)))

-- Fates.
same_set : (es : List Entry) (n : ℕ) (e o : Entry) → slice_get es n ≡ Some o → e.what ≡ o.what →
    whats (set es n e) ≡ whats es
same_set [] n e o q h = refl
same_set (x ∷ es) zero e o q h = ap (λ w. w ∷ whats es) (h ∙ ap what_of (sym (some_is q)))
same_set (x ∷ es) (suc n) e o q h = ap (λ ws. x.what ∷ ws) (same_set es n e o q h)

fate_goes : (v : Volume) (i : ℕ) (test : Entry → Bool) (fate : Fate) →
    OnSome (Goes v) (with_fate v i test fate)
fate_goes v zero test fate = tt
fate_goes v (suc n) test fate =
    subst (λ (o : Option Entry). OnSome (Goes v)
    (option_map (with_changed v (suc n)) (option_and_then (ends test fate) o)))
    (sym (numbered_suc v.log n))
    (go (slice_get v.log n) refl)
  where
    go : (o : Option Entry) → slice_get v.log n ≡ o →
        OnSome (Goes v) (option_map (with_changed v (suc n)) (option_and_then (ends test fate) o))
    go None q = tt
    go (Some e) q =
        on_map (Goes v) (with_changed v (suc n)) (ends test fate e)
        (on_if (λ y. Goes v (with_changed v (suc n) y)) (is_open e.fate && test e)
        (Some (record e { fate = fate }))
        (alike v (with_changed v (suc n) (record e { fate = fate }))
        (same_set v.log n (record e { fate = fate }) e q refl) refl (λ a i. (a, i, refl))))

-- Failed commands.
like_failed : (n : ℕ) (c : ClientId) (number : ℕ) (x : Place) (es : List Entry) →
    whats (failed_up_to n c number x es) ≡ whats es
unfolding failed_up_to
like_failed zero c number x es = refl
like_failed (suc n) c number x [] = refl
like_failed (suc n) c number x (e ∷ es) =
    ap (λ w. w ∷ whats (failed_up_to n c number x es))
    (one (is_by_at c x e && ((n == 0) || is_open e.fate)))
    ∙ ap (λ ws. e.what ∷ ws) (like_failed n c number x es)
  where
    one : (b : Bool) → (if b then record e { failed = number } else e).what ≡ e.what
    one true = refl
    one false = refl

fails_kept : (c : ClientId) (number : ℕ) (test : Ask → Bool) (a : Pending) →
    (fails c number test a).ask ≡ a.ask
fails_kept c number test a = go (volume.is_of_client c a && test a.ask)
  where
    go : (b : Bool) → (if b then record a { faults = number ∷ a.faults } else a).ask ≡ a.ask
    go true = refl
    go false = refl

failing_goes : (v : Volume) (c : ClientId) (number : ℕ) (test : Ask → Bool) →
    Goes v (failing v c number test)
failing_goes v c number test = alike v (failing v c number test) refl refl
    (same_asks v.pending (fails c number test) (fails_kept c number test))

-- Each step.
asked_goes : (v : Volume) (c : ClientId) (ask : Ask) → Goes v (arrived v c ask)
asked_goes v c ask =
    record {
      grown = record {
        more = [];
        log = sym (append-nil (whats v.log));
        kept =
            λ x i. inl (in_places (ask ∷ []) v.claims x i);
      };
      open_ = λ h a i x e. go h a x e (has_append v.pending (new_ask v c ask ∷ []) a i);
    }
  where
    go : OpenWanted v → (a : Pending) (x : Place) → place_of a.ask ≡ Some x →
        Has a v.pending ⊎ Has a (new_ask v c ask ∷ []) →
        Has x (with_places (ask ∷ []) v.claims)
    go h a x e (inl i) = in_places (ask ∷ []) v.claims x (h a i x e)
    go h a x e (inr (inl q)) = ask_places (ask ∷ []) v.claims ask x (inl refl)
        (ap (λ (b : Pending). place_of b.ask) (sym q) ∙ e)
    go h a x e (inr (inr q)) = absurd q

acts_goes : (v : Volume) (it : VolumeStep) → OnSome (Goes v) (acts v it)
acts_goes v (steps.Asked c ask) =
    on_if (Goes v) _ (Some (notice (arrived v c ask)))
    (goes_then v (arrived v c ask) (notice (arrived v c ask)) (asked_goes v c ask)
    (noticed (arrived v c ask)))
acts_goes v (steps.TakesEffect c op) =
    on_map (Goes v) notice (option_and_then (takes v) (find (is_ask c op) (v.pending ++ v.orphans)))
    (on_then (λ u. Goes v (notice u)) (takes v) (find (is_ask c op) (v.pending ++ v.orphans))
    (on_all (λ a. OnSome (λ u. Goes v (notice u)) (takes v a)) (λ a. takes_goes v a)
    (find (is_ask c op) (v.pending ++ v.orphans))))
acts_goes v (steps.Answered c op answer) =
    on_then (Goes v) (answered v answer) (find (is_ask c op) v.pending)
    (on_all (λ a. OnSome (Goes v) (answered v answer a))
    (λ a. on_if (Goes v) _ (Some (closed a (after_answer v a answer))) (answer_goes v a answer))
    (find (is_ask c op) v.pending))
acts_goes v (steps.Hardened i) = fate_goes v i (λ e. true) fates.Hard
acts_goes v (steps.Dropped i cause) = fate_goes v i (is_cause cause) fates.Dropped
acts_goes v (steps.Crashed c) =
    goes_then v (record v { log = map (crash_of c) v.log }) (volume.crashed v c)
    (marked v (crash_of c) (λ e. refl))
    (alike (record v { log = map (crash_of c) v.log }) (volume.crashed v c) refl refl
    (λ a i. (a, (has_filter (λ b. not (volume.is_of_client c b)) v.pending a i).0, refl)))
acts_goes v (steps.Restarted s) = alike v (volume.restarted v s) refl refl (λ a i. (a, i, refl))
acts_goes v (steps.WriteFailed c number i) =
    on_map (Goes v) (failed v c number i) _
    (on_all (λ x. Goes v (failed v c number i x))
    (λ x. goes_then v (record v { log = failed_up_to i c number x v.log }) (failed v c number i x)
    (alike v (record v { log = failed_up_to i c number x v.log }) (like_failed i c number x v.log)
    refl (λ a j. (a, j, refl)))
    (failing_goes (record v { log = failed_up_to i c number x v.log }) c number
    (volume.is_sync_of x.0))) _)
acts_goes v (steps.ReadFailed c s number) = failing_goes v c number (volume.is_read_of s)
acts_goes v (steps.Joined i c what) = tt

pub step_goes : (v : Volume) (it : VolumeStep) → OnSome (Goes v) (step v it)
step_goes v (steps.Joined i c what) =
    on_if (Goes v) _ (Some (record v { lines = i }))
    (alike v (record v { lines = i }) refl refl (λ a j. (a, j, refl)))
step_goes v (steps.Asked c ask) = on_if (Goes v) (v.lines == length v.log)
    (acts v (steps.Asked c ask)) (acts_goes v (steps.Asked c ask))
step_goes v (steps.TakesEffect c op) =
    on_if (Goes v) (v.lines == length v.log) (acts v (steps.TakesEffect c op))
    (acts_goes v (steps.TakesEffect c op))
step_goes v (steps.Answered c op answer) =
    on_if (Goes v) (v.lines == length v.log) (acts v (steps.Answered c op answer))
    (acts_goes v (steps.Answered c op answer))
step_goes v (steps.Hardened i) = on_if (Goes v) (v.lines == length v.log)
    (acts v (steps.Hardened i)) (acts_goes v (steps.Hardened i))
step_goes v (steps.Dropped i cause) =
    on_if (Goes v) (v.lines == length v.log) (acts v (steps.Dropped i cause))
    (acts_goes v (steps.Dropped i cause))
step_goes v (steps.Crashed c) = on_if (Goes v) (v.lines == length v.log) (acts v (steps.Crashed c))
    (acts_goes v (steps.Crashed c))
step_goes v (steps.Restarted s) = on_if (Goes v) (v.lines == length v.log)
    (acts v (steps.Restarted s)) (acts_goes v (steps.Restarted s))
step_goes v (steps.WriteFailed c number i) =
    on_if (Goes v) (v.lines == length v.log) (acts v (steps.WriteFailed c number i))
    (acts_goes v (steps.WriteFailed c number i))
step_goes v (steps.ReadFailed c s number) =
    on_if (Goes v) (v.lines == length v.log) (acts v (steps.ReadFailed c s number))
    (acts_goes v (steps.ReadFailed c s number))

-- lists that begin alike
pub same_rest : {A : Type 0} (xs ys zs : List A) → xs ++ ys ≡ xs ++ zs → ys ≡ zs
same_rest [] ys zs e = e
same_rest (x ∷ xs) ys zs e = same_rest xs ys zs (tail e)
  where
    tail : x ∷ (xs ++ ys) ≡ x ∷ (xs ++ zs) → xs ++ ys ≡ xs ++ zs
    tail q = cc q

-- Steps, one after another.
pub run_goes : (its : List VolumeStep) (v : Volume) → OnSome (Goes v) (run its v)
unfolding run
run_goes [] v = goes_self v
run_goes (it ∷ its) v =
    on_then (Goes v) (run its) (step v it)
    (on_more (Goes v) (λ u. OnSome (Goes v) (run its u))
    (λ u k. on_more (Goes u) (Goes v) (λ z q. goes_then v u z k q) (run its u) (run_goes its u))
    (step v it) (step_goes v it))

-- an ask that comes first: room is wanted for its page, unless these steps cut it
pub asked_first : (c : ClientId) (ask : Ask) (its : List VolumeStep) (v u : Volume) →
    run (steps.Asked c ask ∷ its) v ≡ Some u →
    (more : List Ask) → whats u.log ≡ whats v.log ++ more → (x : Place) → place_of ask ≡ Some x →
    Has x u.claims ⊎ (list_any (cuts_place x) more ≡ true)
unfolding run
asked_first c ask its v u led more same x e = go (step v (steps.Asked c ask)) refl led
  where
    go : (o : Option Volume) → step v (steps.Asked c ask) ≡ o →
        option_and_then (run its) o ≡ Some u →
        Has x u.claims ⊎ (list_any (cuts_place x) more ≡ true)
    go None q l = cc l
    go (Some w) q l = first (v.lines == length v.log) (nat_le (length (volume.open_of v c)) 16) q
      where
        rest : Goes w u
        rest = subst (OnSome (Goes w)) l (run_goes its w)

        first : (b d : Bool) →
            (if b then (if d then Some (notice (arrived v c ask)) else None) else None) ≡ Some w →
            Has x u.claims ⊎ (list_any (cuts_place x) more ≡ true)
        first false d z = cc z
        first true false z = cc z
        first true true z =
            by (rest.grown.kept x
            (subst (λ (y : Volume). Has x y.claims) is
            (ask_places (ask ∷ []) v.claims ask x (inl refl) e)))
          where
            is : notice (arrived v c ask) ≡ w
            is = some_is z

            logs : whats v.log ++ rest.grown.more ≡ whats v.log ++ more
            logs = ap (λ (y : Volume). whats y.log ++ rest.grown.more) is ∙
                (sym rest.grown.log ∙ same)

            by : Has x u.claims ⊎ (list_any (cuts_place x) rest.grown.more ≡ true) →
                Has x u.claims ⊎ (list_any (cuts_place x) more ≡ true)
            by (inl i) = inl i
            by (inr k) =
                inr (ap (list_any (cuts_place x))
                (sym (same_rest (whats v.log) rest.grown.more more logs)) ∙ k)
