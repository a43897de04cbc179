-- The law in the world: advances, and nodes that crash and start.
use Rattle.st_lemmas.proofs.Words
use Words.{◌≡◌, ℕ, ◌+◌, ◌≤◌, Bool, true, false, not, ◌&&◌, List, [], ◌∷◌, ◌++◌, ◌==◌, Option, Some, None, refl, sym, ap, ◌∙◌, subst, arith, if◌then◌else◌}
use Words.{leb-true, nat_le, filter, suc, zero, slice_get, unwrap_or, list_any, eqb-true, le-leb, ClientId, ServerId, FileId, PageNo, Stamp, BlockAt, Tag}
use Words.{Cause, LogEntry, LogOwner, Block, DiskCommand, IssuedCommand, LeaseLife}
use Words.nodes
use Words.causes
use Words.refusals
use Words.Keys.{same_client, same_server}
use Words.FlatLog as log
use Words.FlatLog.{owner, same_owner}
use Words.World.{World, WorldClient, numbered, clock_of, lease_end_of}
use Words.Admissible as adm
use Words.Events as ev
use Words.Lookups.{some_is, or_left, or_right}
use Words.Tables.{and_true, and_both}
use Words.Truth.{not_both}
use Words.Worlds.{stands_not}
use Rattle.std.specs.List.{zip}
use Rattle.st_laws_pages.specs.Disks.Pages.{ExtentsOf, LivingOf, CarriedRight, PagesAreKept}
use Rattle.st_laws_pages.specs.Disks.World.{Living, Timely, EffectDone, CommandsHold, HoldsBy, PagesHold, mapped_in, births_in, block_in, LateStays, EndsAgree}
use Rattle.st_laws_pages.specs.Disks.World.{EndsAt}
use Rattle.st_laws_pages.proofs.Disks.Folds.{done_drop, owner_parts}
use Rattle.st_laws_pages.proofs.Disks.Law.{kept_with_fewer_living, dropped, length_same}
use Rattle.st_lemmas.proofs.Marks.{owners_drop}

-- A drop leaves what the commands did.
done_of_drop : (es : List LogEntry) (picked : ℕ → LogOwner → Bool) (cause : FileId → PageNo → Cause) (x : IssuedCommand) (tag : Tag) → EffectDone es x tag → EffectDone (log.drop_from 1 picked cause es) x tag
done_of_drop es picked cause x tag e =
    record { index = e.index; carries = e.carries; high = subst (λ m. e.index ≤ m) (sym (length_same es _ (owners_drop 1 picked cause es))) e.high; done = done_drop 1 e.index _ 1 picked cause es e.done }

pub commands_more : (es fs : List LogEntry) (cs : List IssuedCommand) (ds : List DiskCommand) → ((x : IssuedCommand) (tag : Tag) → EffectDone es x tag → EffectDone fs x tag) → CommandsHold es cs ds → CommandsHold fs cs ds
commands_more es fs cs ds m h = record { counts = h.counts; reads = h.reads; done = λ k x d at tag bytes i e w f. m x tag (h.done k x d at tag bytes i e w f) }

-- by another test of what is late
pub later : (T U : ℕ → IssuedCommand → Type 0) (w : World) → ((k : ℕ) (x : IssuedCommand) → numbered w.commands k ≡ Some x → U k x → T k x) → HoldsBy T w → HoldsBy U w
later T U w f h =
    record {
      pages = kept_with_fewer_living w.log (mapped_in w) (block_in w) (births_in w) (Living T w.commands w.disks.commands)
          (Living U w.commands w.disks.commands)
          (λ k x at tag bytes l. record { issued = l.issued; command = l.command; is = l.is; what = l.what; unreported = l.unreported; fresh = l.fresh; timely = f k x l.issued l.timely }) h.pages;
      commands = h.commands;
      extents = h.extents;
    }

-- Clocks advance.
pub advanced_get : (ds : List ℕ) (ts : List Stamp) (n : ℕ) (t : Stamp) → slice_get ts n ≡ Some t → slice_get (ev.advanced ds ts) n ≡ Some (record { 0 = t.0 + unwrap_or (slice_get ds n) 0 })
unfolding ev.advanced
advanced_get [] ts n t e = e ∙ ap (λ m. Some (record { 0 = m })) (let z : t.0 ≡ t.0 + 0 = omega arith in z)
advanced_get (d ∷ ds) [] n t e = cc
advanced_get (d ∷ ds) (u ∷ ts) zero t e = ap (λ (o : Stamp). Some (record { 0 = o.0 + d })) (some_is e)
advanced_get (d ∷ ds) (u ∷ ts) (suc n) t e = advanced_get ds ts n t e

advanced_up : (ds : List ℕ) (ts : List Stamp) (n : ℕ) → (unwrap_or (slice_get ts n) (record { 0 = 0 })).0 ≤ (unwrap_or (slice_get (ev.advanced ds ts) n) (record { 0 = 0 })).0
unfolding ev.advanced
advanced_up [] ts n = omega arith
advanced_up (d ∷ ds) [] n = omega arith
advanced_up (d ∷ ds) (u ∷ ts) zero = omega arith
advanced_up (d ∷ ds) (u ∷ ts) (suc n) = advanced_up ds ts n

pub clock_up : (w : World) (steps : List ℕ) (c : ClientId) → (clock_of w (nodes.Client c)).0 ≤ (clock_of (ev.with_clocks steps w) (nodes.Client c)).0
clock_up w steps c = go c.0
  where
    go : (n : ℕ) → (unwrap_or (numbered w.clocks n) (record { 0 = 0 })).0 ≤ (unwrap_or (numbered (ev.advanced steps w.clocks) n) (record { 0 = 0 })).0
    go zero = omega arith
    go (suc n) = advanced_up steps w.clocks n

pub clock_is : (w : World) (steps : List ℕ) (c : ClientId) (t : Stamp) → numbered w.clocks c.0 ≡ Some t → (clock_of (ev.with_clocks steps w) (nodes.Client c)).0 ≡ (clock_of w (nodes.Client c)).0 + adm.step_of c steps
clock_is w steps c t e = go c.0 e
  where
    go : (n : ℕ) → numbered w.clocks n ≡ Some t → (unwrap_or (numbered (ev.advanced steps w.clocks) n) (record { 0 = 0 })).0 ≡ (unwrap_or (numbered w.clocks n) (record { 0 = 0 })).0 + unwrap_or (numbered steps n) 0
    go zero e = cc
    go (suc n) e =
        ap (λ (o : Option Stamp). (unwrap_or o (record { 0 = 0 })).0) (advanced_get steps w.clocks n t e)
        ∙ ap (λ (o : Option Stamp). (unwrap_or o (record { 0 = 0 })).0 + unwrap_or (slice_get steps n) 0) (sym e)

still_timely : (w : World) (steps : List ℕ) (k : ℕ) (x : IssuedCommand) → Timely (ev.with_clocks steps w) k x → Timely w k x
unfolding adm.stands
still_timely w steps k x t = go (lease_end_of w x.client x.server x.life) t
  where
    go : (o : Option Stamp) → adm.late_at (clock_of (ev.with_clocks steps w) (nodes.Client x.client)) o ≡ None → adm.late_at (clock_of w (nodes.Client x.client)) o ≡ None
    go None e = refl
    go (Some end) e = none (nat_le end.0 (clock_of w (nodes.Client x.client)).0) refl
      where
        none : (b : Bool) → nat_le end.0 (clock_of w (nodes.Client x.client)).0 ≡ b → adm.stands (nat_le end.0 (clock_of w (nodes.Client x.client)).0) (refusals.LateDisk (clock_of w (nodes.Client x.client)) end) ≡ None
        none true q =
            let a = leb-true end.0 (clock_of w (nodes.Client x.client)).0 q in
            let b = clock_up w steps x.client in
            absurd (not_both _ (le-leb end.0 (clock_of (ev.with_clocks steps w) (nodes.Client x.client)).0 (omega (arith, a, b))) (stands_not (nat_le end.0 (clock_of (ev.with_clocks steps w) (nodes.Client x.client)).0) _ e))
        none false q = ap (λ b. adm.stands b (refusals.LateDisk (clock_of w (nodes.Client x.client)) end)) q

-- No command that can still have its effect is of these lives.
abbrev pub ApartFrom : LivingOf → List LeaseLife → Type 0
ApartFrom L [] = Unit {0}
ApartFrom L (e ∷ es) =
    record {
      one : (k : ℕ) (x : IssuedCommand) (at : BlockAt) (tag : Tag) (bytes : List ℕ) → L k x at tag bytes → log.is_of_life e.client e.server e.life (owner x.client x.life tag.file tag.page) ≡ false;
      rest : ApartFrom L es;
    }

ended_pages : (cs : List IssuedCommand) (ls : List LeaseLife) (es : List LogEntry) (m : ExtentsOf) (b : BlockAt → Block) (n : ServerId → ℕ) (L : LivingOf) → ApartFrom L ls → PagesAreKept es m b n L → PagesAreKept (ev.log_ended_all cs ls es) m b n L
unfolding ev.log_ended_all ev.log_ended log.drop_picked
ended_pages cs [] es m b n L a h = h
ended_pages cs (l ∷ ls) es m b n L a h =
    ended_pages cs ls (ev.log_ended cs l es) m b n L a.rest
    (dropped es m b n L L (ev.is_of_life_over l) (ev.cause_at_end cs l) (λ k x at tag bytes z. z) (λ k x at tag bytes i z c j o u v. subst (λ q. log.is_of_life l.client l.server l.life q ≡ false) (sym (owner_parts o _ v)) (a.one k x at tag bytes z)) h)

ended_done : (cs : List IssuedCommand) (ls : List LeaseLife) (es : List LogEntry) (x : IssuedCommand) (tag : Tag) → EffectDone es x tag → EffectDone (ev.log_ended_all cs ls es) x tag
unfolding ev.log_ended_all ev.log_ended log.drop_picked
ended_done cs [] es x tag h = h
ended_done cs (l ∷ ls) es x tag h = ended_done cs ls (ev.log_ended cs l es) x tag (done_of_drop es (ev.is_of_life_over l) (ev.cause_at_end cs l) x tag h)

-- a life whose end an advance reaches has no command that is timely after it
apart_one : (w : World) (steps : List ℕ) (e : LeaseLife) → ((t : Stamp) → e.end ≡ Some t → EndsAt w e t) → ev.is_reached w steps e ≡ true → (k : ℕ) (x : IssuedCommand) (f : FileId) (p : PageNo) →
    x.server ≡ f.server → Timely (ev.with_clocks steps w) k x → log.is_of_life e.client e.server e.life (owner x.client x.life f p) ≡ false
apart_one w steps e ends r k x f p s t = go (log.is_of_life e.client e.server e.life (owner x.client x.life f p)) refl e.end refl r
  where
    v : World
    v = ev.with_clocks steps w

    clock : ℕ
    clock = (clock_of w (nodes.Client e.client)).0

    over : (t : Stamp) → e.end ≡ Some t → nat_le t.0 (clock + adm.step_of e.client steps) ≡ true → log.is_of_life e.client e.server e.life (owner x.client x.life f p) ≡ true → ⊥
    over end q le z =
        let d = ends end q in
        let a = and_true (same_client x.client e.client) (same_server f.server e.server && (x.life.0 == e.life.0)) z in
        let b = and_true (same_server f.server e.server) (x.life.0 == e.life.0) a.1 in
        let c : x.client ≡ e.client = ap (λ n. record { 0 = n }) (eqb-true x.client.0 e.client.0 a.0) in
        let g : x.server ≡ e.server = s ∙ ap (λ n. record { 0 = n }) (eqb-true f.server.0 e.server.0 b.0) in
        let l : x.life ≡ e.life = ap (λ n. record { 0 = n }) (eqb-true x.life.0 e.life.0 b.1) in
        let y : adm.late_at (clock_of v (nodes.Client e.client)) (Some end) ≡ None =
        ap (λ o. adm.late_at (clock_of v (nodes.Client e.client)) o) (sym d.agree)
        ∙ ap (λ i. adm.late_at (clock_of v (nodes.Client i)) (lease_end_of w i e.server e.life)) (sym c)
        ∙ ap (λ i. adm.late_at (clock_of v (nodes.Client x.client)) (lease_end_of w x.client i e.life)) (sym g)
        ∙ ap (λ i. adm.late_at (clock_of v (nodes.Client x.client)) (lease_end_of w x.client x.server i)) (sym l) ∙ t in
        let no = stands_not (nat_le end.0 (clock_of v (nodes.Client e.client)).0) _ y in
        not_both _ (subst (λ n. nat_le end.0 n ≡ true) (sym (clock_is w steps e.client d.clock d.there)) le) no

    go : (z : Bool) → log.is_of_life e.client e.server e.life (owner x.client x.life f p) ≡ z → (o : Option Stamp) → e.end ≡ o → adm.reaches (clock_of w (nodes.Client e.client)) (adm.step_of e.client steps) o ≡ true → z ≡ false
    go false z o q h = refl
    go true z None q h = cc
    go true z (Some end) q h = absurd (over end q (and_true _ _ h).1 z)

apart_all : (w : World) (steps : List ℕ) (ls : List LeaseLife) (L : LivingOf) → ((k : ℕ) (x : IssuedCommand) (at : BlockAt) (tag : Tag) (bytes : List ℕ) → L k x at tag bytes → (x.server ≡ tag.file.server) × Timely (ev.with_clocks steps w) k x) →
    EndsAgree w ls → ApartFrom L (filter (ev.is_reached w steps) ls)
apart_all w steps [] L g h = record {}
apart_all w steps (e ∷ es) L g h = go (ev.is_reached w steps e) refl (apart_all w steps es L g h.rest)
  where
    go : (b : Bool) → ev.is_reached w steps e ≡ b → ApartFrom L (filter (ev.is_reached w steps) es) → ApartFrom L (if b then e ∷ filter (ev.is_reached w steps) es else filter (ev.is_reached w steps) es)
    go true r a = record { one = λ k x at tag bytes l. let q = g k x at tag bytes l in apart_one w steps e h.one r k x tag.file tag.page q.0 q.1; rest = a }
    go false r a = a

-- Advance.
pub advance_keeps : (w : World) (steps : List ℕ) → EndsAgree w (ev.present_lives w.clients ++ w.ended) → PagesHold w → PagesHold (ev.advances w steps).world
unfolding ev.advances ev.marks ev.lives_reached
advance_keeps w steps ends h =
    let v : World = ev.with_clocks steps w in
    let g : HoldsBy (Timely v) w = later (Timely w) (Timely v) w (λ k x i t. still_timely w steps k x t) h in
    let L : LivingOf = Living (Timely v) w.commands w.disks.commands in
    let ls : List LeaseLife = ev.lives_reached w steps in
    record {
      pages = ended_pages w.commands ls w.log (mapped_in w) (block_in w) (births_in w) L (apart_all w steps (ev.present_lives w.clients ++ w.ended) L (λ k x at tag bytes l. (server_is k x at tag bytes (g.pages.carry k x at tag bytes l), Living.timely l)) ends) g.pages;
      commands = commands_more w.log _ w.commands w.disks.commands (λ x tag d. ended_done w.commands ls w.log x tag d) g.commands;
      extents = record { settings = h.extents.settings; ids = h.extents.ids; lies = h.extents.lies };
    }
  where
    server_is : (k : ℕ) (x : IssuedCommand) (at : BlockAt) (tag : Tag) (bytes : List ℕ) → CarriedRight w.log (mapped_in w tag.file tag.page) x at tag bytes → x.server ≡ tag.file.server
    server_is k x at tag bytes c = c.server

-- Crash of a client.
pub any_zip : {A B : Type 0} (p : A × B → Bool) (xs : List A) (ys : List B) (n : ℕ) (x : A) (y : B) → slice_get xs n ≡ Some x → slice_get ys n ≡ Some y → p (x, y) ≡ true → list_any p (zip xs ys) ≡ true
any_zip p [] ys n x y a b e = cc
any_zip p (u ∷ us) [] n x y a b e = cc
any_zip p (u ∷ us) (v ∷ vs) zero x y a b e = or_left (p (u, v)) _ (ap (λ z. p (z, v)) (some_is a) ∙ ap (λ z. p (x, z)) (some_is b) ∙ e)
any_zip p (u ∷ us) (v ∷ vs) (suc n) x y a b e = or_right (p (u, v)) _ (any_zip p us vs n x y a b e)

spared : (T : ℕ → IssuedCommand → Type 0) (w : World) (k : ℕ) (x : IssuedCommand) (at : BlockAt) (tag : Tag) (bytes : List ℕ) (i : ℕ) → Living T w.commands w.disks.commands k x at tag bytes → x.carries ≡ Some (record { file = tag.file; page = tag.page; index = i }) →
    (m : ℕ) (a : LogOwner) → nat_le m i ≡ true → same_owner a (owner x.client x.life tag.file tag.page) ≡ true → ev.is_spared w m a ≡ true
spared T w zero x at tag bytes i l c m a le s = absurd (none l.issued)
  where
    none : ◌≡◌ {A = Option IssuedCommand} None (Some x) → ⊥
    none e = cc
spared T w (suc n) x at tag bytes i l c m a le s = any_zip (ev.spares m a) w.commands w.disks.commands n x l.command l.issued l.is (and_both (adm.is_open l.command.report) (ev.spares_by m a x x.carries) (ap adm.is_open l.unreported) by)
  where
    by : ev.spares_by m a x x.carries ≡ true
    by = ap (ev.spares_by m a x) c ∙ and_both (nat_le m i) _ le (turn (owner_parts a _ s))
      where
        turn : a ≡ owner x.client x.life tag.file tag.page → same_owner (owner x.client x.life tag.file tag.page) a ≡ true
        turn e = subst (λ o. same_owner o a ≡ true) e (subst (λ o. same_owner a o ≡ true) (sym e) s)

pub crash_keeps : (w : World) (c : ClientId) (site : WorldClient) → LateStays w (ev.crashes_client w c (Some site)).world → PagesHold w → PagesHold (ev.crashes_client w c (Some site)).world
unfolding ev.crashes_client ev.marks ev.log_crashed log.drop_picked
crash_keeps w c site late h =
    let v : World = ev.with_site c (ev.stopped_site site) (ev.with_crashed_lives site w) in
    let g : HoldsBy (Timely v) w = later (Timely w) (Timely v) w late h in
    let L : LivingOf = Living (Timely v) w.commands w.disks.commands in
    record {
      pages =
          dropped w.log (mapped_in w) (block_in w) (births_in w) L L (ev.is_of_crashed w c) (log.always causes.Crash) (λ k x at tag bytes z. z)
          (λ k x at tag bytes i l q m a le s. left (log.is_of_client c a) (ev.is_spared w m a) (spared (Timely v) w k x at tag bytes i l q m a le s)) g.pages;
      commands = commands_more w.log _ w.commands w.disks.commands (λ x tag d. done_of_drop w.log (ev.is_of_crashed w c) (log.always causes.Crash) x tag d) g.commands;
      extents = record { settings = h.extents.settings; ids = h.extents.ids; lies = h.extents.lies };
    }
  where
    left : (b d : Bool) → d ≡ true → (b && not d) ≡ false
    left true d e = ap not e
    left false d e = refl

-- Start of a client.
pub start_keeps : (w : World) (c : ClientId) (site : WorldClient) → LateStays w (ev.starts_client w c (Some site)) → PagesHold w → PagesHold (ev.starts_client w c (Some site))
unfolding ev.starts_client
start_keeps w c site late h =
    let v : World = ev.with_site c (ev.started_site site) w in
    let g : HoldsBy (Timely v) w = later (Timely w) (Timely v) w late h in
    record { pages = g.pages; commands = g.commands; extents = record { settings = h.extents.settings; ids = h.extents.ids; lies = h.extents.lies } }
