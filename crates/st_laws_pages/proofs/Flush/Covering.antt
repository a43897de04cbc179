-- The flush: after the passes of a step, under a lease that drains, each dirty page has a write outstanding or a failed command.
use Rattle.st_lemmas.proofs.Words
use Words.{◌≡◌, ℕ, ◌⊎◌, Bool, true, false, not, ◌&&◌, List, [], ◌∷◌, ◌++◌, ◌==◌, Option, Some, None, refl, sym, ap, ◌∙◌, subst, inl, inr, if◌then◌else◌, find}
use Words.{filter, is_some, map, option_map, list_any, PageNo, Stamp, Body, DirtyPage, MappedBlock, PageCommand, Release, Request}
use Words.bodies
use Words.io
use Words.Keys.{rising, same_page}
use Words.ClientLease as lease
use Words.ClientPages as pages
use Words.ClientPages.{Pages}
use Words.ClientPasses as cp
use Words.Client as cl
use Words.ClientState as state
use Words.ClientState.{ClientSession, Turn}
use Words.Lists.{Has}
use Words.Lookups.{some_is}
use Words.Tables.{and_true, has_filter_in, has_map_in, found_at}
use Rattle.std.specs.Prelude.{flat_map}
use Rattle.st_lemmas.proofs.Keys.{rising_has_in}
use Rattle.st_lemmas.proofs.Contents.{Place_is, self_place}
use Rattle.st_laws_steps.specs.Client.Losses.{Fit}
use Rattle.st_laws_pages.specs.Flush.Flush.{Covered, PageCovered}
use Rattle.st_laws_steps.proofs.Client.Nexts.{Next, next_then, changes_next, dirty_on}
use Rattle.st_laws_steps.proofs.Client.Working.{changes_by_operations, changes_by_reductions}
use Rattle.st_laws_pages.proofs.Flush.Caring.{any_front, any_back}

-- The place of each dirty page is among the places.
in_flat : {A B : Type 0} (f : A → List B) (xs : List A) (x : A) (y : B) → Has x xs → Has y (f x) → Has y (flat_map f xs)
in_flat f [] x y i j = absurd i
in_flat {A} {B} f (z ∷ xs) x y (inl e) j = front (f z) (flat_map f xs) (subst (λ u. Has y (f u)) e j)
  where
    front : (ys zs : List B) → Has y ys → Has y (ys ++ zs)
    front [] zs i = absurd i
    front (w ∷ ys) zs (inl q) = inl q
    front (w ∷ ys) zs (inr i) = inr (front ys zs i)
in_flat {A} {B} f (z ∷ xs) x y (inr i) j = back (f z) (flat_map f xs) (in_flat f xs x y i j)
  where
    back : (ys zs : List B) → Has y zs → Has y (ys ++ zs)
    back [] zs i = i
    back (w ∷ ys) zs i = inr (back ys zs i)

place_there : (ps : Pages) (ino : ℕ) (p : PageNo) (d : DirtyPage) → pages.dirty_of ps ino p ≡ Some d → Has (ino, p) (pages.dirty_places ps)
unfolding pages.dirty_places
place_there ps ino p d e =
    let f = found_at (pages.is_dirty_of ino p) ps.dirty d e in
    let o = dirty_on ps ino p d e in
    in_flat (pages.dirty_on ps) (rising (map pages.ino_of_dirty ps.dirty)) ino (ino, p)
    (subst (λ n. Has n (rising (map pages.ino_of_dirty ps.dirty))) o.0 (rising_has_in (map pages.ino_of_dirty ps.dirty) d.ino (has_map_in pages.ino_of_dirty ps.dirty d f.1)))
    (has_map_in (λ n. (ino, page n)) (rising (map pages.page_of_dirty here)) p.0
    (subst (λ (q : PageNo). Has q.0 (rising (map pages.page_of_dirty here))) o.1
    (rising_has_in (map pages.page_of_dirty here) d.page.0 (has_map_in pages.page_of_dirty here d (has_filter_in (pages.is_dirty_on ino) ps.dirty d f.1 (and_true (d.ino == ino) (same_page d.page p) f.0).0)))))
  where
    here : List DirtyPage
    here = filter (pages.is_dirty_on ino) ps.dirty

    page : ℕ → PageNo
    page n = record { 0 = n }

-- Writes leave the pages, what is known, the session and the settings, and end no command.
record Wrote (t u : Turn) : Type 0 where
  pub pages : u.here.store.pages ≡ t.here.store.pages
  pub extents : u.here.store.extents ≡ t.here.store.extents
  pub session : u.here.session ≡ t.here.session
  pub config : u.config ≡ t.config
  pub more : (q : PageCommand → Bool) → list_any q t.here.store.commands ≡ true → list_any q u.here.store.commands ≡ true

wrote_none : (t : Turn) → Wrote t t
wrote_none t = record { pages = refl; extents = refl; session = refl; config = refl; more = λ q h. h }

wrote_then : (t u v : Turn) → Wrote t u → Wrote u v → Wrote t v
wrote_then t u v a b =
    record { pages = b.pages ∙ a.pages; extents = b.extents ∙ a.extents; session = b.session ∙ a.session; config = b.config ∙ a.config; more = λ q h. b.more q (a.more q h) }

submits_wrote : (t : Turn) (d : DirtyPage) (m : MappedBlock) → Wrote t (cp.submit_write t d m)
unfolding cp.submit_write cp.submit_command pages.begin_command
submits_wrote t d m = record { pages = refl; extents = refl; session = refl; config = refl; more = λ q h. any_front q t.here.store.commands _ h }

page_wrote : (t : Turn) (s : ClientSession) (now : Stamp) (tick : Bool) (o : Option DirtyPage) → Wrote t (cp.write_page t s now tick o)
unfolding cp.write_page cp.write_due cp.write_out cp.write_out_at
page_wrote t s now tick None = wrote_none t
page_wrote t s now tick (Some d) = due (cp.is_writable t s now tick d)
  where
    at : (m : Option MappedBlock) → Wrote t (cp.write_out_at t d m)
    at None = wrote_none t
    at (Some m) = submits_wrote t d m

    due : (b : Bool) → Wrote t (if b then cp.write_out t d else t)
    due true = at (pages.mapping_of t.here.store.extents d.ino d.page)
    due false = wrote_none t

each_wrote : (s : ClientSession) (now : Stamp) (tick : Bool) (xs : List (ℕ × PageNo)) (t : Turn) → Wrote t (cp.write_each s now tick xs t)
unfolding cp.write_each
each_wrote s now tick [] t = wrote_none t
each_wrote s now tick (x ∷ xs) t =
    let u = cp.write_page t s now tick (pages.dirty_of t.here.store.pages x.0 x.1) in
    wrote_then t u (cp.write_each s now tick xs u) (page_wrote t s now tick (pages.dirty_of t.here.store.pages x.0 x.1)) (each_wrote s now tick xs u)

-- A page that was covered stays so.
covered_on : (t u : Turn) → Wrote t u → (ino : ℕ) (p : PageNo) → PageCovered t.here ino p → PageCovered u.here ino p
covered_on t u w ino p f d e = go (f d (ap (λ (ps : Pages). pages.dirty_of ps ino p) (sym w.pages) ∙ e))
  where
    go : (pages.is_being_written t.here.store.commands ino p ≡ true) ⊎ (is_some d.failed ≡ true) → (pages.is_being_written u.here.store.commands ino p ≡ true) ⊎ (is_some d.failed ≡ true)
    go (inl h) = inl (w.more (pages.is_write_of ino p) h)
    go (inr h) = inr h

-- Under a lease that drains, a dirty page that is mapped is covered.
page_covers : (t : Turn) (s : ClientSession) (now : Stamp) (tick : Bool) (ino : ℕ) (p : PageNo) → lease.may_drain (lease.standing_of t.config s.lease now) ≡ true →
    ((d : DirtyPage) → pages.dirty_of t.here.store.pages ino p ≡ Some d → pages.is_mapped t.here.store.extents ino p ≡ true) → PageCovered (cp.write_page t s now tick (pages.dirty_of t.here.store.pages ino p)).here ino p
unfolding cp.write_page cp.write_due cp.write_out cp.write_out_at cp.is_due cp.submit_write cp.submit_command pages.begin_command
page_covers t s now tick ino p drains mapped d e = go (pages.dirty_of t.here.store.pages ino p) refl (ap (λ (ps : Pages). pages.dirty_of ps ino p) (sym (page_wrote t s now tick (pages.dirty_of t.here.store.pages ino p)).pages) ∙ e)
  where
    Left : Turn → Type 0
    Left u = (pages.is_being_written u.here.store.commands ino p ≡ true) ⊎ (is_some d.failed ≡ true)

    one : (x : DirtyPage) → pages.dirty_of t.here.store.pages ino p ≡ Some x → x ≡ d → Left (cp.write_page t s now tick (Some x))
    one x q z = due (pages.is_being_written t.here.store.commands x.ino x.page) refl (is_some x.failed) refl
      where
        o : (x.ino ≡ ino) × (x.page ≡ p)
        o = dirty_on t.here.store.pages ino p x q

        known : is_some (pages.mapping_of t.here.store.extents x.ino x.page) ≡ true
        known = ap (λ i. pages.is_mapped t.here.store.extents i x.page) o.0 ∙ ap (λ r. pages.is_mapped t.here.store.extents ino r) o.1 ∙ mapped x q

        at : (m : Option MappedBlock) → is_some m ≡ true → Left (cp.write_out_at t x m)
        at None k = cc
        at (Some m) k = inl (any_back (pages.is_write_of ino p) t.here.store.commands (pages.page_command t.next_command x.ino x.page (io.Write x.version)) (ap (λ i. Place_is i x.page ino p) o.0 ∙ ap (λ r. Place_is ino r ino p) o.1 ∙ self_place ino p))

        due : (b : Bool) → pages.is_being_written t.here.store.commands x.ino x.page ≡ b → (f : Bool) → is_some x.failed ≡ f → Left (if not b && (if lease.may_drain (lease.standing_of t.config s.lease now) then not f else cp.is_due_by_need t s tick x) then cp.write_out t x else t)
        due true w f g = inl (subst (λ i. pages.is_being_written t.here.store.commands i p ≡ true) o.0 (subst (λ r. pages.is_being_written t.here.store.commands x.ino r ≡ true) o.1 w))
        due false w f g = drain f g
          where
            drain : (f : Bool) → is_some x.failed ≡ f → Left (if (if lease.may_drain (lease.standing_of t.config s.lease now) then not f else cp.is_due_by_need t s tick x) then cp.write_out t x else t)
            drain f g = subst (λ b. Left (if (if b then not f else cp.is_due_by_need t s tick x) then cp.write_out t x else t)) (sym drains) (last f g)
              where
                last : (f : Bool) → is_some x.failed ≡ f → Left (if not f then cp.write_out t x else t)
                last true g = inr (ap (λ (y : DirtyPage). is_some y.failed) (sym z) ∙ g)
                last false g = at (pages.mapping_of t.here.store.extents x.ino x.page) known

    go : (x : Option DirtyPage) → pages.dirty_of t.here.store.pages ino p ≡ x → x ≡ Some d → Left (cp.write_page t s now tick x)
    go None q z = cc
    go (Some x) q z = one x q (some_is z)

each_covers : (s : ClientSession) (now : Stamp) (tick : Bool) (xs : List (ℕ × PageNo)) (t : Turn) → lease.may_drain (lease.standing_of t.config s.lease now) ≡ true →
    ((ino : ℕ) (p : PageNo) (d : DirtyPage) → pages.dirty_of t.here.store.pages ino p ≡ Some d → pages.is_mapped t.here.store.extents ino p ≡ true) →
    (ino : ℕ) (p : PageNo) → Has (ino, p) xs → PageCovered (cp.write_each s now tick xs t).here ino p
unfolding cp.write_each
each_covers s now tick [] t drains mapped ino p i = absurd i
each_covers s now tick (x ∷ xs) t drains mapped ino p i =
    go i
    (λ j. each_covers s now tick xs u (ap (λ k. lease.may_drain (lease.standing_of k s.lease now)) w.config ∙ drains)
    (λ i q d e. ap (λ es. pages.is_mapped es i q) w.extents ∙ mapped i q d (ap (λ (ps : Pages). pages.dirty_of ps i q) (sym w.pages) ∙ e)) ino p j)
  where
    u : Turn
    u = cp.write_page t s now tick (pages.dirty_of t.here.store.pages x.0 x.1)

    w : Wrote t u
    w = page_wrote t s now tick (pages.dirty_of t.here.store.pages x.0 x.1)

    go : ((ino, p) ≡ x) ⊎ Has (ino, p) xs → (Has (ino, p) xs → PageCovered (cp.write_each s now tick xs u).here ino p) → PageCovered (cp.write_each s now tick xs u).here ino p
    go (inl e) f =
        covered_on u (cp.write_each s now tick xs u) (each_wrote s now tick xs u) ino p
        (subst (λ (z : ℕ × PageNo). PageCovered (cp.write_page t s now tick (pages.dirty_of t.here.store.pages z.0 z.1)).here ino p) e (page_covers t s now tick ino p drains (mapped ino p)))
    go (inr j) f = f j

record Kept (t u : Turn) : Type 0 where
  pub dirty : u.here.store.pages.dirty ≡ t.here.store.pages.dirty
  pub commands : u.here.store.commands ≡ t.here.store.commands
  pub lease : option_map cl.lease_of_session u.here.session ≡ option_map cl.lease_of_session t.here.session

kept_none : (t : Turn) → Kept t t
kept_none t = record { dirty = refl; commands = refl; lease = refl }

-- a session of this lease asks
ask_kept : (t : Turn) (s u : ClientSession) (now : Stamp) (body : Body) (cutting : Option ℕ) → t.here.session ≡ Some s → u.lease ≡ s.lease → Kept t (cp.ask t u now body cutting)
unfolding cp.ask state.asking state.send
ask_kept t s u now body cutting e l = record { dirty = refl; commands = refl; lease = ap (λ x. Some x) l ∙ ap (option_map cl.lease_of_session) (sym e) }

cut_kept : (st : pages.Store) (o : Option (ℕ × PageNo)) → ((cp.cut_store o st).pages.dirty ≡ st.pages.dirty) × ((cp.cut_store o st).commands ≡ st.commands)
unfolding pages.forget_from pages.drop_from
cut_kept st None = (refl, refl)
cut_kept st (Some cut) = (refl, refl)

requests_kept : (now : Stamp) (tick : Bool) (t : Turn) (s : ClientSession) → t.here.session ≡ Some s → Kept t (cp.requests_under t s now tick)
unfolding cp.requests_under cp.requests_at cp.repeat cp.ask_again cp.ask_new cp.reassert cp.ask_by cp.ask_release cp.ask_next cp.ask_for_or cp.ask_for cp.ask cp.keep_alive state.asking state.send
requests_kept now tick t s e = condemned s.lease.condemned
  where
    again : (q : Request) (b : Bool) → Kept t (if b then cp.ask_again t s now q else t)
    again q true = record { dirty = refl; commands = refl; lease = ap (option_map cl.lease_of_session) (sym e) }
    again q false = kept_none t

    alive : (b : Bool) → Kept t (if b then cp.ask t s now bodies.KeepAlive None else t)
    alive true = ask_kept t s s now bodies.KeepAlive None e refl
    alive false = kept_none t

    for_ : (o : Option cp.Asking) → Kept t (cp.ask_for_or t s now o)
    for_ None = alive (lease.is_renewing (lease.phase_of t.config s.lease now))
    for_ (Some a) = let z = cut_kept t.here.store a.wanted.cut in record { dirty = z.0; commands = z.1; lease = ap (option_map cl.lease_of_session) (sym e) }

    next : (b : Bool) → Kept t (if b then cp.ask_for_or t s now (cp.first_asking t s now t.operations) else cp.keep_alive t s now)
    next true = for_ (cp.first_asking t s now t.operations)
    next false = alive (lease.is_renewing (lease.phase_of t.config s.lease now))

    by : (rs : List Release) → Kept t (cp.ask_by t s now rs)
    by [] = next (state.is_serving t.config s now)
    by (r ∷ rs) = ask_kept t s (record s { releases = rs }) now (bodies.Released r.ino r.g r.to) None e refl

    new : (b : Bool) → Kept t (if b then cp.reassert t s now else cp.ask_by t s now s.releases)
    new true = ask_kept t s s now _ None e refl
    new false = by s.releases

    at : (o : Option Request) → Kept t (cp.requests_at t s now tick o)
    at None = new s.due
    at (Some q) = again q (cp.is_old t.config now tick q)

    condemned : (b : Bool) → Kept t (if b then t else cp.requests_at t s now tick s.requests.asked)
    condemned true = kept_none t
    condemned false = at s.requests.asked

kept_covered : (t u : Turn) → Kept t u → Covered t.here → Covered u.here
kept_covered t u k f ino p d e = go (f ino p d (ap (λ xs. find (pages.is_dirty_of ino p) xs) (sym k.dirty) ∙ e))
  where
    go : (pages.is_being_written t.here.store.commands ino p ≡ true) ⊎ (is_some d.failed ≡ true) → (pages.is_being_written u.here.store.commands ino p ≡ true) ⊎ (is_some d.failed ≡ true)
    go (inl h) = inl (ap (λ cs. pages.is_being_written cs ino p) k.commands ∙ h)
    go (inr h) = inr h

-- The passes.
pub passes_cover : (now : Stamp) (tick : Bool) (t : Turn) → Fit t.here → (s : ClientSession) → (cp.passes now tick t).here.session ≡ Some s → lease.may_drain (lease.standing_of t.config s.lease now) ≡ true → Covered (cp.passes now tick t).here
unfolding cp.passes cp.requests cp.requests_by cp.greeting cp.greeting_by cp.greet cp.hello state.send cp.writes cp.writes_by
passes_cover now tick t fit s e drains = go u.here.session refl e
  where
    u : Turn
    u = cp.reductions (cp.operations now t)

    n : Next now t u
    n = next_then now t (cp.operations now t) u (changes_next now t (cp.operations now t) (changes_by_operations now t)) (changes_next now (cp.operations now t) u (changes_by_reductions now (cp.operations now t)))

    End : Option ClientSession → Turn
    End x = cp.requests now tick (cp.greeting now tick (cp.writes_by u now tick x))

    none_some : ◌≡◌ {A = Option ClientSession} None (Some s) → ⊥
    none_some z = cc

    greeted : (b : Bool) → u.here.session ≡ None → (cp.requests_by (if b then cp.hello u now else u) now tick (if b then cp.hello u now else u).here.session).here.session ≡ None
    greeted true q = ap (λ x. (cp.requests_by (cp.hello u now) now tick x).here.session) q ∙ q
    greeted false q = ap (λ x. (cp.requests_by u now tick x).here.session) q ∙ q

    go : (x : Option ClientSession) → u.here.session ≡ x → (End x).here.session ≡ Some s → Covered (End x).here
    go None q f = absurd (none_some (sym (ap (λ x. (cp.requests now tick (cp.greeting_by u now tick x)).here.session) q ∙ greeted (cp.must_greet u now tick) q) ∙ f))
    go (Some r) q f = by w.session
      where
        v : Turn
        v = cp.write_each r now tick (pages.dirty_places u.here.store.pages) u

        w : Wrote u v
        w = each_wrote r now tick (pages.dirty_places u.here.store.pages) u

        its : v.here.session ≡ Some r
        its = w.session ∙ q

        is : cp.requests now tick (cp.greeting now tick v) ≡ cp.requests_under v r now tick
        is = ap (λ x. cp.requests now tick (cp.greeting_by v now tick x)) its ∙ ap (cp.requests_by v now tick) its

        k : Kept v (cp.requests_under v r now tick)
        k = requests_kept now tick v r its

        inj : (x y : lease.ClientLease) → Some x ≡ Some y → x ≡ y
        inj x y z = cc

        same : s.lease ≡ r.lease
        same = inj s.lease r.lease (ap (option_map cl.lease_of_session) (sym f ∙ ap (λ (z : Turn). z.here.session) is) ∙ k.lease ∙ ap (option_map cl.lease_of_session) its)

        drained : lease.may_drain (lease.standing_of u.config r.lease now) ≡ true
        drained = ap (λ c. lease.may_drain (lease.standing_of c r.lease now)) (sym n.config) ∙ ap (λ l. lease.may_drain (lease.standing_of t.config l now)) (sym same) ∙ drains

        covers : Covered v.here
        covers ino p d y =
            each_covers r now tick (pages.dirty_places u.here.store.pages) u drained (n.fit fit).mapped ino p
            (place_there u.here.store.pages ino p d (ap (λ (ps : Pages). pages.dirty_of ps ino p) (sym w.pages) ∙ y)) d y

        by : v.here.session ≡ u.here.session → Covered (End (Some r)).here
        by z = subst (λ (x : Turn). Covered x.here) (sym is) (kept_covered v (cp.requests_under v r now tick) k covers)
