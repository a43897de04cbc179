-- What is reported after a step: the change that was made, or none if there was none.
use Rattle.st_lemmas.proofs.Words
use Words.{◌≡◌, ◌≢◌, ℕ, ◌+◌, ◌-◌, ◌^◌, ◌<◌, ◌≤◌, ◌⊎◌, Bool, true, false, ◌==◌, List, Option, Some, None, refl, sym, ap, subst, ◌∙◌, arith, inl, inr, ◌&&◌}
use Words.{length, min, nat_le, if◌then◌else◌, Result, Ok, Err, and_parts, and_from, eqb-true, eq-eqb, le-leb, leb-true, lt-ltb, Body, NameOp, Output}
use Words.{StepFault, Config, ServerId, Stamp, ServerInput}
use Words.bodies
use Words.ops
use Words.faults
use Words.Ranges as messages
use Words.Kinds.{kind_of_body}
use Words.serving.{Tick, Control}
use Words.Server as server
use Words.Server.{ServerNode, ServerState, Stable, crash}
use Words.Tables.{cond_either}
use Words.Truth.{not_both}
use Rattle.st_journal.specs.Changes as ranges
use Rattle.st_journal.specs.Changes.{fits}
use Rattle.st_journal.specs.Stable as journal
use Rattle.st_journal.specs.declared.change.Change.{Change}
use Rattle.st_journal.specs.declared.change.Change.TheVariants as changes
use Rattle.st_rules.specs.declared.node.StepRefusal.TheVariants.{Crashed}
use Rattle.st_durable.specs.Durable.{IsAsked, IsMade, IsOwn, Tells, asked, asked_of, asked_of_names, mark}
use Rattle.st_server.specs.RuleConditions.{comes_fit}
use Rattle.st_server.specs.Room.{HasRoom}
use Rattle.st_server.specs.Steps.{Steps, node_after}
use Rattle.st_durable.proofs.StableChanges.{Follows, follows_then, kept_id, kept_stable, step_follows, still}
use Rattle.st_durable.proofs.Marks.{marks_tell}

-- The change that a message asks for has its fields in their ranges.
abbrev AllFit : Option Change → Type 0
AllFit None = Unit {0}
AllFit (Some x) = fits x ≡ true

entry_fits : (dir : ℕ) (name : List ℕ) → messages.is_ino dir ≡ true → messages.has_length 1 255 name ≡ true → ranges.is_entry dir name ≡ true
entry_fits dir name e f =
    let high : dir ≤ 4294967295 = leb-true dir 4294967295 (and_parts (nat_le 1 dir) (nat_le dir 4294967295) e).1 in
    and_from (ranges.is_word32 dir) (ranges.is_short name) (lt-ltb dir (2 ^ 32) (omega (arith, high))) (and_parts (nat_le 1 (length name)) (nat_le (length name) 255) f).1

place_fits : (dir : ℕ) (name : List ℕ) → messages.is_dir_name 1 dir name ≡ true → ranges.is_entry dir name ≡ true
place_fits dir name e = let p = and_parts (messages.is_ino dir) (messages.has_length 1 255 name) e in entry_fits dir name p.0 p.1

name_fits : (op : NameOp) → messages.is_name_op op ≡ true → AllFit (asked_of_names op)
unfolding messages.is_name_op fits
name_fits (ops.Lookup dir n) e = tt
name_fits (ops.Create dir n) e = place_fits dir n e
name_fits (ops.Mkdir dir n) e = place_fits dir n e
name_fits (ops.Remove dir n g) e =
    let p = and_parts (messages.is_ino dir) _ e in
    entry_fits dir n p.0 (and_parts (messages.has_length 1 255 n) (messages.is_grant g) p.1).0
name_fits (ops.Rename dir n dir2 n2) e =
    let p = and_parts (messages.is_dir_name 1 dir n) (messages.is_dir_name 1 dir2 n2) e in
    and_from (ranges.is_entry dir n) (ranges.is_entry dir2 n2) (place_fits dir n p.0) (place_fits dir2 n2 p.1)
name_fits (ops.List dir after) e = tt

count_fits : (page count : ℕ) → page ≤ 1048575 → messages.is_count page count ≡ true → ranges.is_count page count ≡ true
count_fits page count low e =
    let p = and_parts (nat_le 1 count) (nat_le count (min 64 (1048576 - page))) e in
    let b : count ≤ min 64 (1048576 - page) = leb-true count (min 64 (1048576 - page)) p.1 in
    and_from (ranges.between 1 64 count) (nat_le (page + count) 1048576)
    (and_from (nat_le 1 count) (nat_le count 64) p.0 (le-leb count 64 (omega (arith, b)))) (le-leb (page + count) 1048576 (omega (arith, b, low)))

body_fits : (b : Body) → messages.is_body b ≡ true → AllFit (asked_of b)
unfolding messages.is_body fits
body_fits (bodies.Allocate ino g page count) e =
    let p = and_parts (messages.is_ino ino) _ e in
    let q = and_parts (messages.is_grant g) (messages.is_page 0 page.0 && messages.is_count page.0 count) p.1 in
    let r = and_parts (messages.is_page 0 page.0) (messages.is_count page.0 count) q.1 in
    let low : page.0 ≤ 1048575 = leb-true page.0 1048575 (and_parts (nat_le 0 page.0) (nat_le page.0 1048575) r.0).1 in
    and_from (ranges.is_ino ino) _ p.0 (and_from (ranges.is_page page.0) (ranges.is_count page.0 count) r.0 (count_fits page.0 count low r.1))
body_fits (bodies.Cut ino g from) e =
    let p = and_parts (messages.is_ino ino) _ e in
    and_from (ranges.is_ino ino) (ranges.is_page from.0) p.0 (and_parts (messages.is_grant g) (messages.is_page 0 from.0) p.1).1
body_fits (bodies.Name op) e = name_fits op e
body_fits b e = tt

input_fits : (i : ServerInput) → comes_fit i ≡ true → AllFit (asked i)
unfolding messages.fits
input_fits Tick e = tt
input_fits (Control m) e = body_fits m.body (and_parts (messages.is_header (kind_of_body m.body) m.header) (messages.is_body m.body) e).1

-- A server with room has room for the change that is asked for.
abbrev AllRoom : Stable → Option Change → Type 0
AllRoom t None = Unit {0}
AllRoom t (Some x) = journal.HasRoom t x

module _ (s : ServerState) (room : HasRoom s) where
  name_room : (op : NameOp) → AllRoom s.stable (asked_of_names op)
  name_room (ops.Lookup dir n) = tt
  name_room (ops.Create dir n) = room.inodes
  name_room (ops.Mkdir dir n) = room.inodes
  name_room (ops.Remove dir n g) = tt
  name_room (ops.Rename dir n dir2 n2) = tt
  name_room (ops.List dir after) = tt

  body_room : (b : Body) → AllRoom s.stable (asked_of b)
  body_room (bodies.Allocate ino g page count) = room.births
  body_room (bodies.Cut ino g from) = tt
  body_room (bodies.Name op) = name_room op
  body_room b = tt

  input_room : (i : ServerInput) → AllRoom s.stable (asked i)
  input_room Tick = tt
  input_room (Control m) = body_room m.body

-- A crash after a crash changes nothing.
crash_twice : (s : ServerState) → crash (crash s) ≡ crash s
unfolding crash
crash_twice s = refl

module _ (old : ServerNode) (now : Stamp) (i : ServerInput) where
  abbrev stepped : ServerState
  stepped = (server.server_step old.state now i).state

  -- To a crash, a state is the one before the step, or that after it.
  abbrev Left : ServerState → Type 0
  Left s = (crash s ≡ crash old.state) ⊎ (crash s ≡ crash stepped)

  ran : (b : Bool) (new : ServerNode) (out : List Output) → (if b then Ok (server.node_turn old (server.server_step old.state now i)) else Err Crashed) ≡ Ok (record { node = new; out = out }) → Left new.state
  ran true new out f =
      let same : server.node_turn old (server.server_step old.state now i) ≡ record { node = new; out = out } = cc in
      inr (ap (λ (t : server.NodeTurn). crash t.node.state) (sym same))
  ran false new out f = cc

  after_either : (b : Bool) → Left (node_after old (if b then Ok (server.node_turn old (server.server_step old.state now i)) else Err Crashed)).state
  after_either true = inr refl
  after_either false = inl refl

  crashed_left : (s u : ServerState) → s ≡ crash u → Left u → Left s
  crashed_left s u e (inl f) = inl (ap crash e ∙ crash_twice u ∙ f)
  crashed_left s u e (inr f) = inr (ap crash e ∙ crash_twice u ∙ f)

  left : (new : ServerNode) (r : Result (List Output) StepFault) → Steps old new r (server.node_step old now i) → Left new.state
  unfolding server.node_step
  left new (Ok out) f = ran old.running new out f
  left new (Err faults.Crashed) f = inl (ap (λ (n : ServerNode). crash n.state) f.1)
  left new (Err faults.Memory) (inl e) = crashed_left new.state old.state (ap (λ (n : ServerNode). n.state) e) (inl refl)
  left new (Err faults.Memory) (inr e) =
      crashed_left new.state (node_after old (server.node_step old now i)).state (ap (λ (n : ServerNode). n.state) e) (after_either old.running)

  left_follows : (s : ServerState) → IsOwn old.state → Left s → Follows (asked i) old.state s
  left_follows s own (inl e) = still (asked i) old.state s e
  left_follows s own (inr e) = follows_then (asked i) old.state stepped s (step_follows old.state now i own) e

-- A server's extents stay its own.
own_kept : (o : Option Change) (s u : ServerState) → Follows o s u → IsOwn s → IsOwn u
own_kept None s u e own = ap (λ (t : Stable). t.extents.server) (kept_stable s u e) ∙ own ∙ sym (kept_id s u e)
own_kept (Some x) s u (inl e) own = ap (λ (t : Stable). t.extents.server) (kept_stable s u e) ∙ own ∙ sym (kept_id s u e)
own_kept (Some x) s u (inr a) own = (marks_tell s.stable u.stable x a.applied).server ∙ own ∙ sym a.id

pub stays_own : (old new : ServerNode) (r : Result (List Output) StepFault) (now : Stamp) (i : ServerInput) → IsOwn old.state → Steps old new r (server.node_step old now i) → IsOwn new.state
stays_own old new r now i own f = own_kept (asked i) old.state new.state (left_follows old now i new.state own (left old now i new r f)) own

-- What does not ask for a change makes none.
pub tells_none : (old new : ServerNode) (r : Result (List Output) StepFault) (now : Stamp) (i : ServerInput) → IsOwn old.state → asked i ≡ None → Steps old new r (server.node_step old now i) →
    new.state.stable ≡ old.state.stable
tells_none old new r now i own e f =
    kept_stable old.state new.state (subst (λ (o : Option Change). Follows o old.state new.state) e (left_follows old now i new.state own (left old now i new r f)))

same_marks : (old new : Stable) (x : Change) → new ≡ old → (mark new x == mark old x) ≡ true
same_marks old new x e = eq-eqb (mark new x) (mark old x) (ap (λ (t : Stable). mark t x) e)

-- What moved its mark was made, and what did not was not.
by_mark : (old new : Stable) (x : Change) → (new ≡ old) ⊎ (journal.apply old x ≡ Ok new) → fits x ≡ true → journal.HasRoom old x →
    Tells old new (if mark new x == mark old x then None else Some x)
by_mark old new x (inl e) f r =
    cond_either (Tells old new) (mark new x == mark old x) None (Some x) (λ q. e)
    (λ q. absurd (not_both (mark new x == mark old x) (same_marks old new x e) q))
by_mark old new x (inr a) f r =
    cond_either (Tells old new) (mark new x == mark old x) None (Some x) (λ q. (marks_tell old new x a).same (eqb-true (mark new x) (mark old x) q))
    (λ q. record {
      applied = a;
      other = λ e. not_both (mark new x == mark old x) (same_marks old new x e) q;
      ranges = f;
      room = r;
    })

applied_or_not : (s u : ServerState) (x : Change) → Follows (Some x) s u → (u.stable ≡ s.stable) ⊎ (journal.apply s.stable x ≡ Ok u.stable)
applied_or_not s u x (inl e) = inl (kept_stable s u e)
applied_or_not s u x (inr a) = inr a.applied

module _ (old new : ServerNode) (r : Result (List Output) StepFault) (now : Stamp) (i : ServerInput) (x : Change) (own : IsOwn old.state) (room : HasRoom old.state) (fit : comes_fit i ≡ true) (e : asked i ≡ Some x) where
  marked : Steps old new r (server.node_step old now i) → Tells old.state.stable new.state.stable (if mark new.state.stable x == mark old.state.stable x then None else Some x)
  marked f =
      by_mark old.state.stable new.state.stable x
      (applied_or_not old.state new.state x (subst (λ (o : Option Change). Follows o old.state new.state) e (left_follows old now i new.state own (left old now i new r f))))
      (subst AllFit e (input_fits i fit)) (subst (AllRoom old.state.stable) e (input_room old.state room i))

  -- what the marks before and after report
  pub tells : (before after : ℕ) (changed : Option Change) → Steps old new r (server.node_step old now i) → before ≡ mark old.state.stable x → after ≡ mark new.state.stable x →
      changed ≡ (if after == before then None else Some x) → Tells old.state.stable new.state.stable changed
  tells before after changed f b a c =
      subst (Tells old.state.stable new.state.stable) (sym (c ∙ (λ j. if a j == b j then None else Some x))) (marked f)

pub asks : (i : ServerInput) (x : Change) (same : Bool) (changed : Option Change) → asked i ≡ Some x → changed ≡ (if same then None else Some x) → IsAsked i changed
asks i x true changed e c = subst (IsAsked i) (sym c) tt
asks i x false changed e c = subst (IsAsked i) (sym c) e

-- A crash leaves the stable part, and its server.
pub crashed_stable : (old new : ServerNode) → new ≡ server.crash_node old → new.state.stable ≡ old.state.stable
unfolding crash
crashed_stable old new e = ap (λ (n : ServerNode). n.state.stable) e

pub crashed_own : (old new : ServerNode) → new ≡ server.crash_node old → IsOwn old.state → IsOwn new.state
unfolding crash
crashed_own old new e own = subst (λ (n : ServerNode). IsOwn n.state) (sym e) own

-- A start begins the next epoch.
begins : (n : ServerNode) (now : Stamp) → n.state.stable.epoch.0 < 2 ^ 32 - 1 → IsMade n.state.stable (server.start_node n now).state.stable changes.Epoch
unfolding server.start server.begin_epoch journal.apply fits
begins n now b =
    record {
      applied = refl;
      other = λ e. let same : n.state.stable.epoch.0 + 1 ≡ n.state.stable.epoch.0 = ap (λ (t : Stable). t.epoch.0) e in omega (arith, same);
      ranges = refl;
      room = omega (arith, b);
    }

pub started : (old new : ServerNode) (now : Stamp) → new ≡ server.start_node old now → old.state.stable.epoch.0 < 2 ^ 32 - 1 → IsMade old.state.stable new.state.stable changes.Epoch
started old new now e b = subst (λ (n : ServerNode). IsMade old.state.stable n.state.stable changes.Epoch) (sym e) (begins old now b)

pub started_own : (old new : ServerNode) (now : Stamp) → new ≡ server.start_node old now → IsOwn old.state → IsOwn new.state
unfolding server.start server.begin_epoch
started_own old new now e own = subst (λ (n : ServerNode). IsOwn n.state) (sym e) own

-- A fresh server begins the first one.
pub first : (id : ServerId) (k : Config) (servers disks blocks : ℕ) (n : ServerNode) → n ≡ server.fresh_node id k servers disks blocks →
    IsMade (journal.fresh (record { server = id; servers = servers; disks = disks; blocks = blocks })) n.state.stable changes.Epoch
unfolding server.fresh_server journal.apply fits
first id k servers disks blocks n e =
    subst (λ (m : ServerNode). IsMade (journal.fresh (record { server = id; servers = servers; disks = disks; blocks = blocks })) m.state.stable changes.Epoch) (sym e)
    (record {
      applied = refl;
      other = λ f. let same : 1 ≡ 0 = ap (λ (t : Stable). t.epoch.0) f in omega (arith, same);
      ranges = refl;
      room = omega arith;
    })

pub fresh_own : (id : ServerId) (k : Config) (servers disks blocks : ℕ) (n : ServerNode) → n ≡ server.fresh_node id k servers disks blocks → IsOwn n.state
unfolding server.fresh_server
fresh_own id k servers disks blocks n e = subst (λ (m : ServerNode). IsOwn m.state) (sym e) refl
