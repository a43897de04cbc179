-- A server's journal while it is kept, and what opening it again gives.
use Rattle.st_lemmas.proofs.Words
use Words.{◌≡◌, ◌⊎◌, ⊎_elim, ℕ, ◌+◌, ◌≤◌, ◌<◌, Bool, true, false, List, [], ◌∷◌, ◌++◌, length, refl, sym, ap, subst, ◌∙◌, inl, inr, arith}
use Words.{length-append, if◌then◌else◌, Option, Some, None, Result, Ok, Err, Config, ServerId, Stamp}
use Words.Server.{ServerNode, Stable, crash, crash_node}
use Rattle.st_durable.specs.Durable.{IsMade, Tells}
use Rattle.st_journal.specs.Journal.{IsJournal, StandsFor, all_opened, framed, opened}
use Rattle.st_store.specs.Laws.{length-written}
use Rattle.st_journal.specs.OpenedJournal.{room_for}
use Rattle.st_journal.specs.Stable as journal
use Rattle.st_journal.specs.Stable.{after_changes, apply}
use Rattle.st_journal.specs.Appends.{IsTornAppend, with_open_gate, with_record}
use Rattle.st_journal.specs.declared.change.Change.{Change}
use Rattle.st_journal.specs.declared.change.Change.TheVariants as kinds
use Rattle.st_journal.specs.declared.change.Change.TheVariants.{Epoch}
use Rattle.st_journal.specs.declared.stable.ChangeRefusal.{ChangeRefusal}
use Rattle.st_journal.specs.declared.stable.ChangeRefusal.TheVariants.{NoFile}
use Rattle.st_journal.proofs.Appends.{done_append, opened_push, torn_append}
use Rattle.st_journal.proofs.Records.{gate_within, has_room}
use Rattle.st_journal.proofs.Unique.{after_append, one_journal, undamaged}
use Rattle.st_rules.specs.Extents as extents
use Rattle.st_rules.specs.Keys.{page_no}
use Rattle.st_rules.specs.Names as names
use Rattle.st_rules.specs.declared.extents.AllocateRefusal.{AllocateRefusal}
use Rattle.st_rules.specs.declared.extents.AllocateRefusal.TheVariants as space
use Rattle.st_rules.specs.declared.names.EntryRefusal.{EntryRefusal}
use Rattle.st_server.specs.Restart.{crashed_node}
use Rattle.st_embed.specs.KeptJournal.{CanBeOpened, IsBegun, IsElsewhere, IsKeptIn, IsLeftOf, MayBeLeft, written_by}
use Rattle.st_embed.specs.Servers.{EmbeddedServer, IsNotStarted, MayStart, NotOpened, Opens, Steps, begun, gate_by, kept, stable_now, start_of, to_keep}
use Rattle.st_embed.specs.declared.fault.ServerFault.{ServerFault}
use Rattle.st_embed.specs.declared.fault.ServerFault.TheVariants as opening
use Rattle.st_embed.specs.declared.server.Shape.{Shape}

some_is : {A : Type 0} (x y : A) → Some x ≡ Some y → x ≡ y
some_is x y e = cc

-- what must be kept, by whether it is kept
keeps_some : (e : EmbeddedServer) → e.unkept ≡ true → to_keep e ≡ e.server.changed
keeps_some e u = ap (λ (b : Bool). if b then e.server.changed else None) u

keeps_none : (e : EmbeddedServer) → e.unkept ≡ false → to_keep e ≡ None
keeps_none e u = ap (λ (b : Bool). if b then e.server.changed else None) u

-- room for a record, in the journal's bytes
room_in : (bytes : List ℕ) (x : Change) (size gate : ℕ) → size ≡ length bytes → gate < length bytes → room_for x ≤ Rattle.st_journal.specs.OpenedJournal.room_behind size gate → gate + 1 + length (framed x ++ 0 ∷ []) ≤ length bytes
room_in bytes x size gate e within room =
    subst (λ (s : ℕ). gate + 1 + length (framed x ++ 0 ∷ []) ≤ s) e (has_room x size gate (subst (λ (s : ℕ). gate < s) (sym e) within) room)

-- Epochs.

by_start : (xs : List Change) (t : Stable) (c : Option Change) → c ≡ Some Epoch → MayStart (length xs) t → IsBegun xs t c
by_start [] t c e m = inl (refl, e)
by_start (x ∷ xs) t c e (inl none) = absurd (omega (arith, none))
by_start (x ∷ xs) t c e (inr some) = inr some.0

-- with nothing to be kept, one was begun
begun_by_none : (xs : List Change) (t : Stable) (c : Option Change) → c ≡ None → IsBegun xs t c → 1 ≤ t.epoch.0
begun_by_none xs t c none (inl first) = let not : None ≡ Some Epoch = sym none ∙ first.1 in absurd cc
begun_by_none xs t c none (inr some) = some

-- no change takes one back
abbrev ok_of : (E : Type 0) → Stable → Result Stable E
ok_of E x = Ok x

kept_epoch : (t u v : Stable) → ok_of ChangeRefusal u ≡ Ok v → t.epoch.0 ≤ u.epoch.0 → t.epoch.0 ≤ v.epoch.0
kept_epoch t u v e le = let same : u ≡ v = cc in subst (λ (s : Stable). t.epoch.0 ≤ s.epoch.0) same le

mapped_epoch : (t u : Stable) (r : Result extents.Extents AllocateRefusal) → journal.mapped t r ≡ Ok u → t.epoch.0 ≤ u.epoch.0
mapped_epoch t u (Ok x) e = kept_epoch t (record t { extents = x }) u e (omega arith)
mapped_epoch t u (Err (space.NoSpace free asked)) e = absurd cc

if_epoch : (t u : Stable) (b : Bool) (r : Result Stable ChangeRefusal) (f : ChangeRefusal) → (r ≡ Ok u → t.epoch.0 ≤ u.epoch.0) → (if b then r else Err f) ≡ Ok u → t.epoch.0 ≤ u.epoch.0
if_epoch t u true r f on e = on e
if_epoch t u false r f on e = absurd cc

named_epoch : (t u : Stable) (r : Result names.Changed EntryRefusal) → journal.named t r ≡ Ok u → t.epoch.0 ≤ u.epoch.0
unfolding journal.named
named_epoch t u (Ok d) e = kept_epoch t (journal.with_names t d.names) u e (omega arith)
named_epoch t u (Err r) e = absurd cc

without_epoch : (t : Stable) (d : names.Changed) → t.epoch.0 ≤ (journal.without t d).epoch.0
without_epoch t d = by (names.is_file t.names d.ino)
  where
    by : (b : Bool) → t.epoch.0 ≤ (if b then journal.released (journal.with_names t d.names) d.ino (page_no 0) else journal.with_names t d.names).epoch.0
    by true = omega arith
    by false = omega arith

removed_epoch : (t u : Stable) (r : Result names.Changed EntryRefusal) → journal.removed t r ≡ Ok u → t.epoch.0 ≤ u.epoch.0
unfolding journal.removed
removed_epoch t u (Ok d) e = kept_epoch t (journal.without t d) u e (without_epoch t d)
removed_epoch t u (Err r) e = absurd cc

epoch_stays : (t u : Stable) (x : Change) → apply t x ≡ Ok u → t.epoch.0 ≤ u.epoch.0
unfolding apply journal.allocate journal.cut
epoch_stays t u kinds.Epoch e = kept_epoch t (journal.next_epoch t) u e (omega arith)
epoch_stays t u (kinds.Allocate ino page count) e =
    if_epoch t u (names.is_file t.names ino) (journal.mapped t (extents.allocate t.extents (journal.file t ino) page count)) (NoFile ino)
    (mapped_epoch t u (extents.allocate t.extents (journal.file t ino) page count)) e
epoch_stays t u (kinds.Cut ino from) e =
    if_epoch t u (names.is_file t.names ino) (Ok (journal.released t ino from)) (NoFile ino) (λ is. kept_epoch t (journal.released t ino from) u is (omega arith)) e
epoch_stays t u (kinds.Create dir n) e = named_epoch t u (names.create t.names dir n) e
epoch_stays t u (kinds.Mkdir dir n) e = named_epoch t u (names.mkdir t.names dir n) e
epoch_stays t u (kinds.Remove dir n) e = removed_epoch t u (names.remove t.names dir n) e
epoch_stays t u (kinds.Rename dir n dir2 n2) e = named_epoch t u (names.rename t.names dir n dir2 n2) e

epoch_begins : (t u : Stable) → apply t Epoch ≡ Ok u → 1 ≤ u.epoch.0
unfolding apply
epoch_begins t u e = let same : journal.next_epoch t ≡ u = cc in subst (λ (s : Stable). 1 ≤ s.epoch.0) same (omega arith)

-- after a change that had to be kept, an epoch was begun
begun_after : (xs : List Change) (t u : Stable) (x : Change) → apply t x ≡ Ok u → IsBegun xs t (Some x) → 1 ≤ u.epoch.0
begun_after xs t u x e (inl first) = epoch_begins t u (subst (λ (y : Change). apply t y ≡ Ok u) (some_is x Epoch first.1) e)
begun_after xs t u x e (inr some) = let stays = epoch_stays t u x e in omega (arith, some, stays)

pub opened_is_kept : (id : ServerId) (k : Config) (w : Shape) (now : Stamp) (bytes : List ℕ) (e : EmbeddedServer) → Opens id k w now bytes e → IsKeptIn id w bytes e
opened_is_kept id k w now bytes e o =
    let epoch : to_keep e ≡ Some Epoch = keeps_some e o.unkept ∙ o.changed in
    let within : e.gate < length bytes = gate_within bytes o.changes e.gate o.stands.journal o.gate in
    record {
      changes = o.changes;
      stable = o.stable;
      stands = o.stands;
      told = subst (λ (c : Option Change). Tells o.stable (stable_now e) c) (sym epoch) o.told;
      epoch = by_start o.changes o.stable (to_keep e) epoch o.may_start;
      gate = o.gate;
      size = o.size;
      room = λ x q. subst (λ (y : Change). e.gate + 1 + length (framed y ++ 0 ∷ []) ≤ length bytes) (some_is Epoch x (sym epoch ∙ q)) (room_in bytes Epoch e.size e.gate o.size within o.room);
    }

-- with nothing to be kept, the journal stands for the present stable part
stands_now : (before now : Stable) (o : Option Change) → o ≡ None → Tells before now o → now ≡ before
stands_now before now o q t = subst (λ (c : Option Change). Tells before now c) q t

pub step_keeps : (id : ServerId) (w : Shape) (bytes : List ℕ) (old new : EmbeddedServer) (now : Stamp) (frame : List ℕ) → IsKeptIn id w bytes old → Steps old new now frame → IsKeptIn id w bytes new
step_keeps id w bytes old new now frame k s =
    let same : stable_now old ≡ k.stable = stands_now k.stable (stable_now old) (to_keep old) (keeps_none old s.kept) k.told in
    let gate : new.gate ≡ length (all_opened k.changes) = s.gate ∙ k.gate in
    let within : new.gate < length bytes = gate_within bytes k.changes new.gate k.stands.journal gate in
    record {
      changes = k.changes;
      stable = k.stable;
      stands = k.stands;
      told = subst (λ (t : Stable). Tells t (stable_now new) (to_keep new)) same s.told;
      epoch = inr (begun_by_none k.changes k.stable (to_keep old) (keeps_none old s.kept) k.epoch);
      gate = gate;
      size = s.size ∙ k.size;
      room = λ x q. room_in bytes x new.size new.gate (s.size ∙ k.size) within (s.room x q);
    }

-- bytes that are taken out are not in the journal
pub taken_keeps : (id : ServerId) (w : Shape) (bytes left : List ℕ) (e : EmbeddedServer) → IsKeptIn id w bytes e → IsKeptIn id w bytes (record e { left = left })
taken_keeps id w bytes left e k = record { changes = k.changes; stable = k.stable; stands = k.stands; told = k.told; epoch = k.epoch; gate = k.gate; size = k.size; room = k.room }

-- one change more
gate_behind : (xs : List Change) (x : Change) (gate : ℕ) → gate ≡ length (all_opened xs) → gate + room_for x ≡ length (all_opened (xs ++ x ∷ []))
gate_behind xs x gate e =
    let a = ap length (opened_push xs x []) in
    let b = length-append (all_opened (xs ++ x ∷ [])) [] in
    let c = length-append (all_opened xs) (opened x ++ []) in
    let d = length-append (opened x) [] in
    omega (arith, a, b, c, d, e)

leads_on : (start before now : Stable) (xs : List Change) (x : Change) → after_changes (Some start) xs ≡ Some before → apply before x ≡ Ok now → after_changes (Some start) (xs ++ x ∷ []) ≡ Some now
leads_on start before now xs x e a =
    after_append (Some start) xs (x ∷ []) ∙ ap (λ (o : Option Stable). after_changes o (x ∷ [])) e ∙ ap journal.kept a

pub written_keeps : (id : ServerId) (w : Shape) (bytes : List ℕ) (e : EmbeddedServer) → IsKeptIn id w bytes e → IsKeptIn id w (written_by (to_keep e) e.gate bytes) (kept e)
written_keeps id w bytes e k = by (to_keep e) refl k.told k.epoch
  where
    by : (o : Option Change) → to_keep e ≡ o → Tells k.stable (stable_now e) o → IsBegun k.changes k.stable o → IsKeptIn id w (written_by o e.gate bytes) (record e { gate = gate_by o e.gate; unkept = false })
    by None q same begun = record { changes = k.changes; stable = k.stable; stands = k.stands; told = same; epoch = inr (begun_by_none k.changes k.stable None refl begun); gate = omega (arith, k.gate); size = k.size; room = λ x r. absurd cc }
    by (Some x) q made begun =
        record {
          changes = k.changes ++ x ∷ [];
          stable = stable_now e;
          stands = record {
            journal = done_append bytes k.changes x (framed x ++ 0 ∷ []) e.gate k.stands.journal k.gate refl made.ranges (k.room x q);
            leads = leads_on (start_of id w) k.stable (stable_now e) k.changes x k.stands.leads made.applied;
          };
          told = refl;
          epoch = inr (begun_after k.changes k.stable (stable_now e) x made.applied begun);
          gate = gate_behind k.changes x e.gate k.gate;
          size = k.size ∙ sym (length-written (with_record bytes e.gate (framed x ++ 0 ∷ [])) e.gate (1 ∷ []) ∙ length-written bytes (e.gate + 1) (framed x ++ 0 ∷ []));
          room = λ y r. absurd cc;
        }

-- What a crash leaves: the journal of before, or with the change that had to be kept.

-- that many bytes, and the changes with the stable part that they lead to
record Leaves (start : Stable) (bytes left : List ℕ) (before now : Stable) (unkept : Option Change) : Type 0 where
  size : length left ≡ length bytes
  changes : List Change
  stable : Stable
  stands : StandsFor start left changes stable
  is : IsLeftOf before now unkept stable
  begun : (changes ≡ []) ⊎ (1 ≤ stable.epoch.0)

length-opened : (bytes : List ℕ) (gate : ℕ) (new : List ℕ) → length (with_open_gate bytes gate new) ≡ length bytes
length-opened bytes gate new = length-written (with_record bytes gate new) gate (1 ∷ []) ∙ length-written bytes (gate + 1) new

length-torn : (bytes : List ℕ) (gate : ℕ) (new left : List ℕ) → IsTornAppend bytes gate new left → length left ≡ length bytes
length-torn bytes gate new left (inl torn) = torn.size
length-torn bytes gate new left (inr torn) = torn.size ∙ length-written bytes (gate + 1) new

module _ (id : ServerId) (w : Shape) (bytes left : List ℕ) (e : EmbeddedServer) (i : IsKeptIn id w bytes e) where
  abbrev start : Stable
  start = start_of id w

  -- what was before
  left_before : (unkept : Option Change) → length left ≡ length bytes → IsJournal left i.changes → IsBegun i.changes i.stable unkept → IsLeftOf i.stable (stable_now e) unkept i.stable →
      Leaves start bytes left i.stable (stable_now e) unkept
  left_before unkept size j b is =
      record { size = size; changes = i.changes; stable = i.stable; stands = record { journal = j; leads = i.stands.leads }; is = is; begun = ⊎_elim (λ first. inl first.0) (λ some. inr some) b }

  -- with one change more
  left_behind : (x : Change) → length left ≡ length bytes → IsJournal left (i.changes ++ x ∷ []) → IsMade i.stable (stable_now e) x → IsBegun i.changes i.stable (Some x) →
      Leaves start bytes left i.stable (stable_now e) (Some x)
  left_behind x size j made b = record {
    size = size;
    changes = i.changes ++ x ∷ [];
    stable = stable_now e;
    stands = record { journal = j; leads = leads_on start i.stable (stable_now e) i.changes x i.stands.leads made.applied };
    is = inr refl;
    begun = inr (begun_after i.changes i.stable (stable_now e) x made.applied b);
  }

  left_torn : (x : Change) → length left ≡ length bytes → IsMade i.stable (stable_now e) x → IsBegun i.changes i.stable (Some x) → IsJournal left i.changes ⊎ IsJournal left (i.changes ++ x ∷ []) →
      Leaves start bytes left i.stable (stable_now e) (Some x)
  left_torn x size made b (inl j) = left_before (Some x) size j b (inl refl)
  left_torn x size made b (inr j) = left_behind x size j made b

  leaves_by : (c : Option Change) → to_keep e ≡ c → Tells i.stable (stable_now e) c → IsBegun i.changes i.stable c → MayBeLeft c e.gate bytes left → Leaves start bytes left i.stable (stable_now e) c
  leaves_by None q same b m = left_before None (ap length m) (subst (λ (l : List ℕ). IsJournal l i.changes) (sym m) i.stands.journal) b (sym same)
  leaves_by (Some x) q made b (inl same) = left_before (Some x) (ap length same) (subst (λ (l : List ℕ). IsJournal l i.changes) (sym same) i.stands.journal) b (inl refl)
  leaves_by (Some x) q made b (inr (inl done)) =
      left_behind x (ap length done ∙ length-opened bytes e.gate (framed x ++ 0 ∷ []))
      (subst (λ (l : List ℕ). IsJournal l (i.changes ++ x ∷ [])) (sym done) (done_append bytes i.changes x (framed x ++ 0 ∷ []) e.gate i.stands.journal i.gate refl made.ranges (i.room x q))) made b
  leaves_by (Some x) q made b (inr (inr torn)) =
      left_torn x (length-torn bytes e.gate (framed x ++ 0 ∷ []) left torn) made b
      (torn_append bytes i.changes x (framed x ++ 0 ∷ []) e.gate i.stands.journal i.gate refl made.ranges (i.room x q) left torn)

  -- Opening.

  -- no opening finds fault with the bytes
  elsewhere : Leaves start bytes left i.stable (stable_now e) (to_keep e) → (k : Config) (now : Stamp) (f : ServerFault) → NotOpened id k w now left f → IsElsewhere bytes f
  elsewhere l k now (opening.Settings r) h = tt
  elsewhere l k now opening.Shape h = tt
  elsewhere l k now opening.Time h = tt
  elsewhere l k now opening.Size h = long h.3
    where
      long : (left ≡ []) ⊎ (4294967295 < length left) → 4294967295 < length bytes
      long (inl none) = absurd (omega (arith, ap length none, gate_within left l.changes (length (all_opened l.changes)) l.stands.journal refl))
      long (inr most) = omega (arith, most, l.size)
  elsewhere l k now (opening.Damaged at) h = undamaged start left at l.changes l.stable l.stands h.1
  elsewhere l k now opening.Full h = tt
  elsewhere l k now opening.NoEpoch h = none h.1
    where
      none : IsNotStarted start left opening.NoEpoch → ⊥
      none n =
          let same : n.changes ≡ l.changes = one_journal left n.changes l.changes n.stands.journal l.stands.journal in
          let led : n.stable ≡ l.stable = some_is n.stable l.stable (sym n.stands.leads ∙ ap (after_changes (Some start)) same ∙ l.stands.leads) in
          let epoch : l.stable.epoch.0 ≡ 0 = ap (λ (t : Stable). t.epoch.0) (sym led) ∙ n.why in
          ⊎_elim (λ first. omega (arith, n.some, ap length (same ∙ first))) (λ some. omega (arith, some, epoch)) l.begun
  elsewhere l k now opening.Epochs h = tt
  elsewhere l k now opening.Memory h = tt

  pub can_be_opened : MayBeLeft (to_keep e) e.gate bytes left → CanBeOpened id w bytes left e
  can_be_opened m =
      let l = leaves_by (to_keep e) refl i.told i.epoch m in
      record {
        before = i.stable;
        stood = (i.changes, i.stands);
        changes = l.changes;
        stable = l.stable;
        stands = l.stands;
        is = l.is;
        refused = elsewhere l;
        node = λ k now again o.
            let same : o.changes ≡ l.changes = one_journal left o.changes l.changes o.stands.journal l.stands.journal in
            let led : o.stable ≡ l.stable = some_is o.stable l.stable (sym o.stands.leads ∙ ap (after_changes (Some start)) same ∙ l.stands.leads) in
            o.node ∙ ap (λ (n : ℕ). begun id k w now n o.stable) (ap length same) ∙ ap (λ (t : Stable). begun id k w now (length l.changes) t) led;
      }

pub is_a_crash : (n : ServerNode) → crash_node n ≡ crashed_node n.state.id n.state.config n.state.stable
unfolding crash
is_a_crash n = refl
