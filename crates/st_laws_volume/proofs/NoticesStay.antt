-- In every run each open ask that had come before a step has noticed what there was to notice of names as the step began.
use Rattle.std.proofs.Common.{◌≡◌, ◌≤◌, ◌⊎◌, arith, ℕ, Bool, true, false, not, ◌&&◌, ◌||◌, ◌==◌, List, [], ◌∷◌, ◌++◌, length, Option, Some, None, Ok, refl, sym, ap, ◌∙◌, subst, inl, inr}
use Rattle.std.specs.Prelude.{filter, nat_le, nat_lt}
use Rattle.std.proofs.lemmas.Bool.{eq-eqb, le-leb}
use Rattle.st_base.specs.declared.config.Config.{Config}
use Rattle.st_base.specs.declared.ids.ClientId.{ClientId}
use Rattle.st_base.specs.declared.ids.ServerId.{ServerId}
use Rattle.st_messages.specs.declared.ask.Ask.{Ask}
use Rattle.st_rules.specs.History.{Traced, traced}
use Rattle.st_rules.specs.Names.{is_file, lookup}
use Rattle.st_rules.specs.Safety.{Promise, Step, step, steps}
use Rattle.st_rules.specs.Server.{ServerNode}
use Rattle.st_rules.specs.World.{fresh_world, node_of}
use Rattle.st_lemmas.specs.Lists.{Has}
use Rattle.st_lemmas.proofs.Lookups.{or_left, or_right}
use Rattle.st_lemmas.proofs.Tables.{all_pass, and_both, each_passes, has_append}
use Rattle.st_laws_pages.specs.Asks.Law.{PlacesHold}
use Rattle.st_laws_pages.specs.Disks.Obligations.{FatesHold}
use Rattle.st_laws_pages.proofs.Asks.Law.{places_law}
use Rattle.st_laws_pages.proofs.Disks.Whole.{fates_law}
use Rattle.st_laws_volume.specs.Asks.{AsksOf, HasAsksOf}
use Rattle.st_laws_volume.specs.Logs.{InEveryRun}
use Rattle.st_laws_volume.specs.Options.{OnSome}
use Rattle.st_laws_volume.specs.Refusals.{HaveNoticedAt, NoticesStay, asks_before, removes_other}
use Rattle.st_laws_volume.specs.Trees.{HasTreesOf}
use Rattle.st_laws_volume.specs.Witness.{Behind, Witness, begun, led_by, volume_after}
use Rattle.st_laws_volume.proofs.Asks.{AsksHold, asks_begin, asks_kept}
use Rattle.st_laws_volume.proofs.Carried.{IsKept, Led, carried}
use Rattle.st_laws_volume.proofs.ChangeLines.{on_both}
use Rattle.st_laws_volume.proofs.MarksStay.{AllMarked, Lasts, after_marked, marked}
use Rattle.st_laws_volume.proofs.Notices.{Noticed, NoticesHold, notices_begin, notices_kept}
use Rattle.st_laws_volume.proofs.Options.{on_more}
use Rattle.st_laws_volume.proofs.ReadPages.{throughout_both, throughout_more}
use Rattle.st_laws_volume.proofs.RefusalNotices.{has_missed, has_other}
use Rattle.st_laws_volume.proofs.Trees.{TreesHold, trees_begin, trees_kept}
use Rattle.st_laws_volume.proofs.TreeWorld.{AllSound}
use Rattle.st_volume.specs.Pages.{same_file}
use Rattle.st_volume.specs.Volume.{Pending, Volume, file_of, is_of_client}

-- The two marks.
abbrev pub its_missed : Bool → Bool → Bool → Bool
its_missed p q r = p

abbrev pub its_other : Bool → Bool → Bool → Bool
its_other p q r = r

pub missed_lasts : Lasts its_missed
missed_lasts true q r x y z k = refl
missed_lasts false q r x y z k = cc k

pub other_lasts : Lasts its_other
other_lasts p q true x y z k = refl
other_lasts p q false x y z k = cc k

-- which asks have them
abbrev pub of_file : ServerId → ℕ → Ask → Bool
of_file s ino ask = same_file (file_of ask) (record { server = s; ino = ino })

abbrev pub AllMissed : Step → ServerId → ℕ → ClientId → Volume → Type 0
AllMissed y s ino c v = AllMarked c (asks_before y c) (of_file s ino) its_missed missed_lasts v

abbrev pub AllOther : Step → ServerId → ℕ → List ℕ → ℕ → ClientId → Volume → Type 0
AllOther y s dir name ino c v = AllMarked c (asks_before y c) (removes_other s dir name ino) its_other other_lasts v

-- What the open asks that had come before a step have noticed.
pub record AllOld (y : Step) (o : Option Volume) : Type 0 where
  pub missed : (s : ServerId) (node : ServerNode) (ino : ℕ) → node_of y.before.world s ≡ Some node → is_file node.state.stable.names ino ≡ false →
      nat_lt 0 ino ≡ true → (c : ClientId) → OnSome (AllMissed y s ino c) o
  pub other : (s : ServerId) (node : ServerNode) (dir : ℕ) (name : List ℕ) (ino : ℕ) → node_of y.before.world s ≡ Some node →
      lookup node.state.stable.names dir name ≡ Ok ino → is_file node.state.stable.names ino ≡ true → (c : ClientId) →
      OnSome (AllOther y s dir name ino c) o

-- a later event leaves it
old_on : (y : Step) (it : Witness) (x : Step) (o : Option Volume) → AllOld y o → AllOld y (volume_after it x o)
old_on y it x o h =
    record {
      missed = λ s node ino at f above c.
          after_marked c (asks_before y c) (of_file s ino) its_missed missed_lasts it x o (h.missed s node ino at f above c);
      other = λ s node dir name ino at q f c.
          after_marked c (asks_before y c) (removes_other s dir name ino) its_other other_lasts it x o (h.other s node dir name ino at q f c);
    }

-- All that are open now have it.
pub all_marked : (c : ClientId) (n : ℕ) (which : Ask → Bool) (pick : Bool → Bool → Bool → Bool) (lasts : Lasts pick) (v : Volume) →
    ((a : Pending) → Has a v.pending → which a.ask ≡ true → pick a.missed a.full a.other ≡ true) → n ≤ length (filter (λ x. x.0.0 == c.0) v.asked) →
    AllMarked c n which pick lasts v
all_marked c n which pick lasts v h l = (all_pass (marked c n which pick lasts) v.pending (λ a i. one a i (which a.ask) refl), l)
  where
    one : (a : Pending) → Has a v.pending → (b : Bool) → which a.ask ≡ b → marked c n which pick lasts a ≡ true
    one a i true q =
        or_right (not (which a.ask)) _ (or_right (not (is_of_client c a && nat_le a.op n)) (pick a.missed a.full a.other) (h a i q))
    one a i false q = or_left (not (which a.ask)) _ (ap not q)

pub old_now : (x : Step) → AllSound x.before.world → (bs : List Behind) (o : Option Volume) → OnSome (HasTreesOf x.before.world) o → OnSome Noticed o →
    OnSome (HasAsksOf x.before.world) o → AllOld x o
old_now x sound bs o trees noticed asks = record { missed = missed; other = other }
  where
    both : OnSome (λ v. HasTreesOf x.before.world v × (Noticed v × HasAsksOf x.before.world v)) o
    both =
        on_both (HasTreesOf x.before.world) (λ v. Noticed v × HasAsksOf x.before.world v) o trees
        (on_both Noticed (HasAsksOf x.before.world) o noticed asks)

    counted : (v : Volume) → HasAsksOf x.before.world v → (c : ClientId) → asks_before x c ≤ length (filter (λ y. y.0.0 == c.0) v.asked)
    counted v h c = let e = ap (λ (a : AsksOf). a.count) (h c) in no e
      where
        no : length (filter (λ y. y.0.0 == c.0) v.asked) ≡ asks_before x c → asks_before x c ≤ length (filter (λ y. y.0.0 == c.0) v.asked)
        no e = omega (arith, e)

    missed : (s : ServerId) (node : ServerNode) (ino : ℕ) → node_of x.before.world s ≡ Some node → is_file node.state.stable.names ino ≡ false →
        nat_lt 0 ino ≡ true → (c : ClientId) → OnSome (AllMissed x s ino c) o
    missed s node ino at f above c =
        on_more (λ v. HasTreesOf x.before.world v × (Noticed v × HasAsksOf x.before.world v)) (AllMissed x s ino c)
        (λ v k. all_marked c (asks_before x c) (of_file s ino) its_missed missed_lasts v
        (λ a i q. has_missed x.before.world sound bs v k.0 k.1.0 s node at ino f above a i q) (counted v k.1.1 c)) o both

    other : (s : ServerId) (node : ServerNode) (dir : ℕ) (name : List ℕ) (ino : ℕ) → node_of x.before.world s ≡ Some node →
        lookup node.state.stable.names dir name ≡ Ok ino → is_file node.state.stable.names ino ≡ true → (c : ClientId) →
        OnSome (AllOther x s dir name ino c) o
    other s node dir name ino at q f c =
        on_more (λ v. HasTreesOf x.before.world v × (Noticed v × HasAsksOf x.before.world v)) (AllOther x s dir name ino c)
        (λ v k. all_marked c (asks_before x c) (removes_other s dir name ino) its_other other_lasts v
        (λ a i r. has_other x.before.world sound bs v k.0 k.1.0 s node at dir name ino q f a i r) (counted v k.1.1 c)) o both

-- What is carried.
pub record MarksHold (past : List Step) (t : Traced) (it : Witness) : Type 0 where
  pub asks : AsksHold past t it
  pub trees_ : TreesHold past t it
  pub notices : NoticesHold past t it
  pub olds : (y : Step) → Has y past → AllOld y it.volume

abbrev pub Known : Promise
Known past x = FatesHold x.after.world × PlacesHold x.after.world

pub marks_kept : IsKept Known MarksHold
unfolding led_by
marks_kept past t e sc it f g h =
    record {
      asks = asks_kept past t e sc it f g h.asks;
      trees_ = trees_kept past t e sc it f tt h.trees_;
      notices = notices_kept past t e sc it f tt h.notices;
      olds = λ y i. go y (has_append past (step t e sc ∷ []) y i);
    }
  where
    now : AllOld (step t e sc) it.volume
    now = old_now (step t e sc) h.trees_.sound it.behind it.volume h.trees_.agree h.notices h.asks.agree

    go : (y : Step) → Has y past ⊎ Has y (step t e sc ∷ []) → AllOld y (volume_after it (step t e sc) it.volume)
    go y (inl i) = old_on y it (step t e sc) it.volume (h.olds y i)
    go y (inr (inl q)) =
        subst (λ z. AllOld z (volume_after it (step t e sc) it.volume)) (sym q) (old_on (step t e sc) it (step t e sc) it.volume now)
    go y (inr (inr i)) = absurd i

-- One ask that had come before.
second : (p q : Bool) → p ≡ true → (not p || q) ≡ true → q ≡ true
second p q e h = sym (ap (λ b. not b || q) e) ∙ h

pub own_mark : (n : ℕ) (which : Ask → Bool) (pick : Bool → Bool → Bool → Bool) (lasts : Lasts pick) (v : Volume) (a : Pending) → Has a v.pending →
    AllMarked a.client n which pick lasts v → a.op ≤ n → which a.ask ≡ true → pick a.missed a.full a.other ≡ true
own_mark n which pick lasts v a i h l q =
    second (is_of_client a.client a && nat_le a.op n) (pick a.missed a.full a.other)
    (and_both (is_of_client a.client a) (nat_le a.op n) (eq-eqb a.client.0 a.client.0 refl) (le-leb a.op n l))
    (second (which a.ask) (not (is_of_client a.client a && nat_le a.op n) || pick a.missed a.full a.other) q
    (each_passes (marked a.client n which pick lasts) v.pending h.0 a i))

noticed_at : (v : Volume) (y : Step) → AllOld y (Some v) → HaveNoticedAt y v
noticed_at v y h =
    record {
      missed = λ s node ino at f above a i l q.
          own_mark (asks_before y a.client) (of_file s ino) its_missed missed_lasts v a i (h.missed s node ino at f above a.client) l q;
      other = λ s node dir name ino at r f a i l q.
          own_mark (asks_before y a.client) (removes_other s dir name ino) its_other other_lasts v a i (h.other s node dir name ino at r f a.client) l q;
    }

all_noticed : (past : List Step) (o : Option Volume) → ((y : Step) → Has y past → AllOld y o) → OnSome (λ v. (y : Step) → Has y past → HaveNoticedAt y v) o
all_noticed past None h = tt
all_noticed past (Some v) h = λ y i. noticed_at v y (h y i)

-- In every run.
pub marks_begin : (k : Config) (clients servers disks blocks form : ℕ) →
    MarksHold [] (traced (fresh_world k clients servers disks blocks form))
    (begun (fresh_world k clients servers disks blocks form) (fresh_world k clients servers disks blocks form))
unfolding begun
marks_begin k clients servers disks blocks form =
    record {
      asks = asks_begin k clients servers disks blocks form;
      trees_ = trees_begin k clients servers disks blocks form;
      notices = notices_begin k clients servers disks blocks form;
      olds = λ y i. absurd i;
    }

pub notices_stay : InEveryRun NoticesStay
notices_stay k clients servers disks blocks form es head events =
    let t : Traced = traced (fresh_world k clients servers disks blocks form) in
    throughout_more (Led MarksHold) NoticesStay (λ past x h. all_noticed (past ++ x ∷ []) _ h.olds) [] (steps es t)
    (carried Known MarksHold marks_kept es t (marks_begin k clients servers disks blocks form)
    (throughout_both (λ past x. FatesHold x.after.world) (λ past x. PlacesHold x.after.world) [] (steps es t)
    (fates_law k clients servers disks blocks form es) (places_law k clients servers disks blocks form es head)))
