-- If nothing waits, a pass changes nothing.
use Rattle.std.proofs.Common.{◌≡◌, ℕ, Bool, true, false, ◌&&◌, ◌||◌, not, if◌then◌else◌, List, [], ◌∷◌, ◌++◌, map, Option, Some, None, refl, sym, ap, ◌∙◌, append_assoc, append-nil, true≢false}
use Rattle.std.proofs.lemmas.Bool.{or_parts}
use Rattle.std.specs.Prelude.{nat_lt, ◌==◌}
use Rattle.std.specs.List.{list_any}
use Rattle.st_base.specs.declared.ids.PageNo.{PageNo}
use Rattle.st_base.specs.declared.ids.ServerId.{ServerId}
use Rattle.st_base.specs.declared.ids.Stamp.{Stamp}
use Rattle.st_base.specs.declared.mode.Mode.TheVariants as modes
use Rattle.st_base.specs.Mode.{covers}
use Rattle.st_rules.specs.declared.client.DemandedFile.{DemandedFile}
use Rattle.st_rules.specs.declared.client.Operation.{Operation}
use Rattle.st_rules.specs.declared.pages.DirtyPage.{DirtyPage}
use Rattle.st_rules.specs.ClientLease.{may_drain, standing_of}
use Rattle.st_rules.specs.ClientLocks as locks
use Rattle.st_rules.specs.ClientPages as pages
use Rattle.st_rules.specs.ClientPasses as passes
use Rattle.st_rules.specs.ClientPasses.{operate, operate_each, operate_on, operations, is_due, write_due, write_page, write_each, writes_by, writes, is_wanted, is_sync_on, is_cut_on}
use Rattle.st_rules.specs.ClientState.{ClientSession, Turn, is_of, is_on, is_sync, is_cut_or_name, is_sent, is_file, file_of, keep, with_operations}
use Rattle.st_rules.specs.Keys.{past, placed, rising, with_key}
use Rattle.st_client_passes.specs.PassConditions.{wants_writes}

-- Operations.

-- an operation of another server stays
no_act : (all : List Operation) (now : Stamp) (t : Turn) (o : Operation) → is_of t.here.server o ≡ false → operate all t now o ≡ keep o t
unfolding operate
no_act all now t o h = ap (λ (b : Bool). if b then operate_on all t now o o.ask else keep o t) h

-- so do these
others_stay : (all : List Operation) (now : Stamp) (os : List Operation) (t : Turn) → list_any (is_of t.here.server) os ≡ false → operate_each all now os t ≡ with_operations (t.operations ++ os) t
unfolding operate_each
others_stay all now [] t h = λ i. with_operations (sym (append-nil t.operations) i) t
others_stay all now (o ∷ os) t h =
    let q = or_parts (is_of t.here.server o) (list_any (is_of t.here.server) os) h in
    ap (operate_each all now os) (no_act all now t o q.0)
    ∙ others_stay all now os (keep o t) q.1
    ∙ (λ i. with_operations (append_assoc t.operations (o ∷ []) os i) t)

-- if no operation is of the server, the pass over them changes nothing
pub operations_idle : (now : Stamp) (t : Turn) → list_any (is_of t.here.server) t.operations ≡ false → operations now t ≡ t
unfolding operations
operations_idle now t h = others_stay t.operations now t.operations (with_operations [] t) h

-- Writes.

key_there : (k : ℕ) (xs : List ℕ) → with_key k xs ≡ [] → ⊥
unfolding with_key placed past
key_there k [] e = cc
key_there k (x ∷ xs) e = by (nat_lt k x) (k == x) e
  where
    by : (a b : Bool) → (if a then k ∷ (x ∷ xs) else (if b then x ∷ xs else x ∷ with_key k xs)) ≡ [] → ⊥
    by true b e = cc
    by false true e = cc
    by false false e = cc

-- without a demanded file there is no demand
none_demanded : (ds : List DemandedFile) → rising (map locks.ino_of_demand ds) ≡ [] → (ino : ℕ) → list_any (locks.is_demand_on ino) ds ≡ false
unfolding rising
none_demanded [] e ino = refl
none_demanded (d ∷ ds) e ino = absurd (key_there d.ino (rising (map locks.ino_of_demand ds)) e)

module _ (s : ServerId) (ino : ℕ) where
  sync_one : (o : Operation) → wants_writes s o ≡ false → (is_on s ino o && is_sync o.ask) ≡ false
  sync_one o h = by (is_of s o) (is_file ino (file_of o.ask)) (is_sync o.ask) (is_cut_or_name o.ask && not (is_sent o)) h
    where
      by : (a b c d : Bool) → (a && (c || d)) ≡ false → ((a && b) && c) ≡ false
      by true true true d h = h
      by true true false d h = refl
      by true false c d h = refl
      by false b c d h = refl

  cut_one : (o : Operation) → wants_writes s o ≡ false → (is_on s ino o && (is_cut_or_name o.ask && not (is_sent o))) ≡ false
  cut_one o h = by (is_of s o) (is_file ino (file_of o.ask)) (is_sync o.ask) (is_cut_or_name o.ask && not (is_sent o)) h
    where
      by : (a b c d : Bool) → (a && (c || d)) ≡ false → ((a && b) && d) ≡ false
      by true true true d h = absurd (true≢false h)
      by true true false d h = h
      by true false c d h = refl
      by false b c d h = refl

  no_syncs : (os : List Operation) → list_any (wants_writes s) os ≡ false → list_any (λ o. is_on s ino o && is_sync o.ask) os ≡ false
  no_syncs [] h = refl
  no_syncs (o ∷ os) h = let q = or_parts (wants_writes s o) (list_any (wants_writes s) os) h in λ i. sync_one o q.0 i || no_syncs os q.1 i

  no_cuts : (os : List Operation) → list_any (wants_writes s) os ≡ false → list_any (λ o. is_on s ino o && (is_cut_or_name o.ask && not (is_sent o))) os ≡ false
  no_cuts [] h = refl
  no_cuts (o ∷ os) h = let q = or_parts (wants_writes s o) (list_any (wants_writes s) os) h in λ i. cut_one o q.0 i || no_cuts os q.1 i

and_none : (a : Bool) → (a && false) ≡ false
and_none true = refl
and_none false = refl

none_wanted : (t : Turn) (s : ClientSession) → locks.demanded_files s.locks ≡ [] → list_any (wants_writes t.here.server) t.operations ≡ false → (ino : ℕ) → is_wanted t s ino ≡ false
none_wanted t s e h ino =
    (λ i. none_demanded s.locks.demanded e ino i || (no_syncs t.here.server ino t.operations h i || (covers (locks.mode_of s.locks ino) modes.X && no_cuts t.here.server ino t.operations h i)))
    ∙ and_none (covers (locks.mode_of s.locks ino) modes.X)

module _ (s : ClientSession) (now : Stamp) (tick : Bool) where
  none_due : (t : Turn) (d : DirtyPage) → may_drain (standing_of t.config s.lease now) ≡ false → ((ino : ℕ) → is_wanted t s ino ≡ false) → write_due t s now tick d ≡ t
  unfolding write_due is_due
  none_due t d m w =
      (λ i. if not (pages.is_being_written t.here.store.commands d.ino d.page) && (if m i then passes.is_unfailed d else (w d.ino i && (passes.is_unfailed d || tick))) then passes.write_out t d else t)
      ∙ ap (λ (b : Bool). if b then passes.write_out t d else t) (and_none (not (pages.is_being_written t.here.store.commands d.ino d.page)))

  none_page : (t : Turn) (o : Option DirtyPage) → may_drain (standing_of t.config s.lease now) ≡ false → ((ino : ℕ) → is_wanted t s ino ≡ false) → write_page t s now tick o ≡ t
  unfolding write_page
  none_page t None m w = refl
  none_page t (Some d) m w = none_due t d m w

  none_written : (xs : List (ℕ × PageNo)) (t : Turn) → may_drain (standing_of t.config s.lease now) ≡ false → ((ino : ℕ) → is_wanted t s ino ≡ false) → write_each s now tick xs t ≡ t
  unfolding write_each
  none_written [] t m w = refl
  none_written (x ∷ xs) t m w = ap (write_each s now tick xs) (none_page t (pages.dirty_of t.here.store.pages x.0 x.1) m w) ∙ none_written xs t m w

  -- if nothing wants writes, none go out except in the flush phase
  pub writes_idle : (t : Turn) → t.here.session ≡ Some s → may_drain (standing_of t.config s.lease now) ≡ false → locks.demanded_files s.locks ≡ [] → list_any (wants_writes t.here.server) t.operations ≡ false → writes now tick t ≡ t
  unfolding writes writes_by
  writes_idle t e m d h = ap (writes_by t now tick) e ∙ none_written (pages.dirty_places t.here.store.pages) t m (none_wanted t s d h)
