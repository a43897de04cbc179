-- An end that could not be told because memory ran out is one of memory.
use Rattle.std.proofs.Common.{◌≡◌, ℕ, ◌≤◌, List, length, refl, ap, subst, sym, ◌∙◌, arith, inl, inr}
use Rattle.std.specs.Prelude.{Option, Some, None, IfSome, Result, Ok, Err, ◌⊎◌}
use Rattle.std.specs.Io.KnownBytes.{Appends}
use Rattle.std.proofs.KnownBytes.{Appends-nil}
use Rattle.std.specs.List.{flat_map}
use Rattle.std.proofs.lemmas.List.{take_all}
use Rattle.st_base.specs.declared.ids.Stamp.{Stamp}
use Rattle.st_base.specs.declared.ids.NodeId.{NodeId}
use Rattle.st_codec.specs.Stream.{message_frame}
use Rattle.st_link.specs.Causes.{Rose}
use Rattle.st_link.specs.Names.{Attaches, MayAttach}
use Rattle.st_link.specs.Prefixes.{AppendsPrefix}
use Rattle.st_messages.specs.declared.message.Message.{Message}
use Rattle.st_node.specs.declared.node.Node.{Node}
use Rattle.st_node.specs.declared.fault.NodeFault.{NodeFault}
use Rattle.st_node.specs.declared.fault.NodeFault.TheVariants as faults
use Rattle.st_node.specs.Runs.{Run, node_run}
use Rattle.st_node.specs.Service.{HasCauses, OfReadings, Serves}
use Rattle.st_node.specs.Whole.{RunsThrough, after_all, handle_all}
use Rattle.st_node.proofs.Runs.{each_reading, map_readings}
use Rattle.st_tank.specs.NodeEnds.{AttachesBy, Completes, IsAttached, IsServed, IsTold, MayTell, Writes, end_status, end_text}
use Rattle.st_tank.specs.NodeWords.{started, started_run}
use Rattle.st_tank.specs.Uses.{StreamUse, LinkUse, ClockUse}

-- all is a front
all_front : (before now : Option (List ℕ)) (text : List ℕ) → Appends before now text → AppendsPrefix before now text
all_front before now text h = (length text, subst (Appends before now) (sym (take_all (length text) text (omega arith))) h)

none_written : (before : Option (List ℕ)) (text : List ℕ) → AppendsPrefix before before text
none_written before text = (0, Appends-nil before)

-- what was served was written
serves_writes : (ended : Result Unit NodeFault) (before now : Option (List ℕ)) (n : Node) (told : Option (List Stamp)) (r : Run) → Serves ended before now n told r → Writes ended before now r
serves_writes (Ok u) before now n told r h = (h.0, h.2)
serves_writes (Err faults.Read) before now n told r h = h
serves_writes (Err faults.Write) before now n told r h = h
serves_writes (Err faults.Memory) before now n told r h = h
serves_writes (Err (faults.Frame at f)) before now n told r h = (h.0, h.2)
serves_writes (Err (faults.Cut at)) before now n told r h = (h.0, h.2)
serves_writes (Err faults.TooManyFrames) before now n told r h = (h.0, h.2)

pub served_writes : (ended : Result Unit NodeFault) (left before now : Option (List ℕ)) (readings told : Option (List Stamp)) (n : Node) (run : List Stamp → List ℕ → Run) →
    IfSome left (λ bytes. OfReadings readings (λ rs. Serves ended before now n told (run rs bytes))) →
    IfSome left (λ bytes. OfReadings readings (λ rs. Writes ended before now (run rs bytes)))
served_writes ended None before now readings told n run h = tt
served_writes ended (Some bytes) before now readings told n run h =
    map_readings readings (λ rs. Serves ended before now n told (run rs bytes)) (λ rs. Writes ended before now (run rs bytes))
    (λ rs. serves_writes ended before now n told (run rs bytes)) h

-- a node was started and attached, and then served
pub attached_writes : (ended : Result Unit NodeFault) (l k w v now : Option (List ℕ)) (readings told : Option (List Stamp)) (id : NodeId) (old new : Node) →
    k ≡ l → v ≡ w → old ≡ started id → IfSome k (λ bytes. OfReadings readings (λ rs. Serves ended v now new told (node_run old rs bytes))) →
    IfSome l (λ bytes. OfReadings readings (λ rs. Writes ended w now (started_run id rs bytes)))
attached_writes ended l k w v now readings told id old new left written begun h =
    let a : IfSome l (λ bytes. OfReadings readings (λ rs. Serves ended v now new told (node_run old rs bytes))) =
    subst (λ x. IfSome x (λ bytes. OfReadings readings (λ rs. Serves ended v now new told (node_run old rs bytes)))) left h in
    let b : IfSome l (λ bytes. OfReadings readings (λ rs. Serves ended w now new told (node_run old rs bytes))) =
    subst (λ x. IfSome l (λ bytes. OfReadings readings (λ rs. Serves ended x now new told (node_run old rs bytes)))) written a in
    let d : IfSome l (λ bytes. OfReadings readings (λ rs. Serves ended w now new told (node_run (started id) rs bytes))) =
    subst (λ x. IfSome l (λ bytes. OfReadings readings (λ rs. Serves ended w now new told (node_run x rs bytes)))) begun b in
    served_writes ended l w now readings told new (λ rs bytes. started_run id rs bytes) d

-- nothing was served
pub nothing_read : (left before : Option (List ℕ)) (readings : Option (List Stamp)) (run : List Stamp → List ℕ → Run) →
    IfSome left (λ bytes. OfReadings readings (λ rs. Writes (Err faults.Read) before before (run rs bytes)))
nothing_read None before readings run = tt
nothing_read (Some bytes) before readings run =
    each_reading readings (λ rs. Writes (Err faults.Read) before before (run rs bytes)) (λ rs. none_written before (run rs bytes).out)

pub unattached_writes : (l w v : Option (List ℕ)) (readings : Option (List Stamp)) (run : List Stamp → List ℕ → Run) → v ≡ w →
    IfSome l (λ bytes. OfReadings readings (λ rs. Writes (Err faults.Read) w v (run rs bytes)))
unattached_writes l w v readings run written =
    subst (λ x. IfSome l (λ bytes. OfReadings readings (λ rs. Writes (Err faults.Read) w x (run rs bytes)))) (sym written) (nothing_read l w readings run)

pub nothing_made : (left before : Option (List ℕ)) (readings : Option (List Stamp)) (run : List Stamp → List ℕ → Run) →
    IfSome left (λ bytes. OfReadings readings (λ rs. Writes (Err faults.Memory) before before (run rs bytes)))
nothing_made None before readings run = tt
nothing_made (Some bytes) before readings run =
    each_reading readings (λ rs. Writes (Err faults.Memory) before before (run rs bytes)) (λ rs. none_written before (run rs bytes).out)

-- memory ran out for the text
less_written : (ended : Result Unit NodeFault) (before now : Option (List ℕ)) (r : Run) → Writes ended before now r → Writes (Err faults.Memory) before now r
less_written (Ok u) before now r h = all_front before now r.out h.1
less_written (Err faults.Read) before now r h = h
less_written (Err faults.Write) before now r h = h
less_written (Err faults.Memory) before now r h = h
less_written (Err (faults.Frame at f)) before now r h = all_front before now r.out h.1
less_written (Err (faults.Cut at)) before now r h = all_front before now r.out h.1
less_written (Err faults.TooManyFrames) before now r h = all_front before now r.out h.1

less_run : (ended : Result Unit NodeFault) (left before now : Option (List ℕ)) (readings : Option (List Stamp)) (run : List Stamp → List ℕ → Run) →
    IfSome left (λ bytes. OfReadings readings (λ rs. Writes ended before now (run rs bytes))) →
    IfSome left (λ bytes. OfReadings readings (λ rs. Writes (Err faults.Memory) before now (run rs bytes)))
less_run ended None before now readings run h = tt
less_run ended (Some bytes) before now readings run h =
    map_readings readings (λ rs. Writes ended before now (run rs bytes)) (λ rs. Writes (Err faults.Memory) before now (run rs bytes))
    (λ rs. less_written ended before now (run rs bytes)) h

-- what may be written about an end
told_causes : (ended told : Result Unit NodeFault) (before now : ℕ) → MayTell ended told → HasCauses ended before now → HasCauses told before now
told_causes ended told before now (inl same) h = subst (λ e. HasCauses e before now) (sym same) h
told_causes ended told before now (inr less) h = subst (λ e. HasCauses e before now) (sym less.1) (stopped ended less.0 h)
  where
    stopped : (ended : Result Unit NodeFault) → end_status ended ≡ 1 → HasCauses ended before now → before ≤ now
    stopped (Ok u) e h = absurd (omega (arith, e))
    stopped (Err faults.Read) e h = absurd (omega (arith, e))
    stopped (Err faults.Write) e h = absurd (omega (arith, e))
    stopped (Err faults.Memory) e h = absurd (omega (arith, e))
    stopped (Err (faults.Frame at f)) e h = omega (arith, h)
    stopped (Err (faults.Cut at)) e h = omega (arith, h)
    stopped (Err faults.TooManyFrames) e h = omega (arith, h)

told_run : (ended told : Result Unit NodeFault) (left before now : Option (List ℕ)) (readings : Option (List Stamp)) (run : List Stamp → List ℕ → Run) →
    MayTell ended told → IfSome left (λ bytes. OfReadings readings (λ rs. Writes ended before now (run rs bytes))) →
    IfSome left (λ bytes. OfReadings readings (λ rs. Writes told before now (run rs bytes)))
told_run ended told left before now readings run (inl same) h =
    subst (λ e. IfSome left (λ bytes. OfReadings readings (λ rs. Writes e before now (run rs bytes)))) (sym same) h
told_run ended told left before now readings run (inr less) h =
    subst (λ e. IfSome left (λ bytes. OfReadings readings (λ rs. Writes e before now (run rs bytes)))) (sym less.1) (less_run ended left before now readings run h)

-- the status of an end that has no text of status 1
sure_status : (ended : Result Unit NodeFault) (status : ℕ) (before now : Option (List ℕ)) (a b : ℕ) → (end_status ended ≡ 1 → ⊥) →
    IsTold ended status before now a b → status ≡ end_status ended
sure_status ended status before now a b not (inl t) = t.0
sure_status (Ok u) status before now a b not (inr t) = t.0
sure_status (Err faults.Read) status before now a b not (inr t) = t.0
sure_status (Err faults.Write) status before now a b not (inr t) = t.0
sure_status (Err faults.Memory) status before now a b not (inr t) = t.0
sure_status (Err (faults.Frame at f)) status before now a b not (inr t) = absurd (not refl)
sure_status (Err (faults.Cut at)) status before now a b not (inr t) = absurd (not refl)
sure_status (Err faults.TooManyFrames) status before now a b not (inr t) = absurd (not refl)

module _ (id : NodeId) (status : ℕ) (before now : Option (List ℕ)) (x y : ℕ) (told_before told_now : Option (List ℕ)) (a b : ℕ) (ms : List Message) (rs : List Stamp)
    (goes : started_run id rs (flat_map message_frame ms) ≡ record { node = (handle_all ms (started id) rs).node; out = (handle_all ms (started id) rs).out; readings = after_all ms rs; stop = Ok tt })
    (still : ¬ (Rose x y)) where
  no_stop : (ended : Result Unit NodeFault) → (Ok tt ≡ ended → ⊥) → (started_run id rs (flat_map message_frame ms)).stop ≡ ended → ⊥
  no_stop ended not e = not (sym (ap (λ (r : Run). r.stop) goes) ∙ e)

  ends_so : (ended : Result Unit NodeFault) → Writes ended before now (started_run id rs (flat_map message_frame ms)) → HasCauses ended x y →
      IsTold ended status told_before told_now a b → (status ≡ 5) ⊎ ((status ≡ 0) × Appends before now (handle_all ms (started id) rs).out)
  ends_so (Ok u) w c t = inr (sure_status (Ok u) status told_before told_now a b (λ e. omega (arith, e)) t, subst (Appends before now) (ap (λ (r : Run). r.out) goes) w.1)
  ends_so (Err faults.Read) w c t = absurd (still c)
  ends_so (Err faults.Write) w c t = absurd (still c)
  ends_so (Err faults.Memory) w c t = inl (sure_status (Err faults.Memory) status told_before told_now a b (λ e. omega (arith, e)) t)
  ends_so (Err (faults.Frame at f)) w c t = absurd (no_stop (Err (faults.Frame at f)) (λ e. absurd cc) w.0)
  ends_so (Err (faults.Cut at)) w c t = absurd (no_stop (Err (faults.Cut at)) (λ e. absurd cc) w.0)
  ends_so (Err faults.TooManyFrames) w c t = absurd (no_stop (Err faults.TooManyFrames) (λ e. absurd cc) w.0)

completes : (id : NodeId) (status : ℕ) (left before now : Option (List ℕ)) (readings : Option (List Stamp)) (x y : ℕ)
    (told_before told_now : Option (List ℕ)) (a b : ℕ)
    (ended : Result Unit NodeFault) → ((n : Node) (rs : List Stamp) (ms : List Message) → RunsThrough n rs ms) →
    IfSome left (λ bytes. OfReadings readings (λ rs. Writes ended before now (started_run id rs bytes))) → HasCauses ended x y →
    IsTold ended status told_before told_now a b → Completes id status left before now readings x y
completes id status left before now readings x y told_before told_now a b ended law w c t = λ ms is framed few still.
    let h : IfSome (Some (flat_map message_frame ms)) (λ bytes. OfReadings readings (λ rs. Writes ended before now (started_run id rs bytes))) =
    subst (λ l. IfSome l (λ bytes. OfReadings readings (λ rs. Writes ended before now (started_run id rs bytes)))) is w in
    map_readings readings (λ rs. Writes ended before now (started_run id rs (flat_map message_frame ms)))
    (λ rs. (status ≡ 5) ⊎ ((status ≡ 0) × Appends before now (handle_all ms (started id) rs).out))
    (λ rs k. ends_so id status before now x y told_before told_now a b ms rs (law (started id) rs ms framed few) still ended k c t) h

-- what a status says of the link
link_cause : (ended : Result Unit NodeFault) (status : ℕ) (before now : Option (List ℕ)) (a b x y : ℕ) → IsTold ended status before now a b →
    HasCauses ended x y →
    status ≡ 6 → Rose x y
link_cause (Ok u) status before now a b x y t c e = absurd (omega (arith, e, sure_status (Ok u) status before now a b (λ e. omega (arith, e)) t))
link_cause (Err faults.Read) status before now a b x y t c e = c
link_cause (Err faults.Write) status before now a b x y t c e = c
link_cause (Err faults.Memory) status before now a b x y t c e = absurd (omega (arith, e, sure_status (Err faults.Memory) status before now a b (λ e. omega (arith, e)) t))
link_cause (Err (faults.Frame at f)) status before now a b x y (inl t) c e = absurd (omega (arith, e, t.0))
link_cause (Err (faults.Frame at f)) status before now a b x y (inr t) c e = absurd (omega (arith, e, t.0))
link_cause (Err (faults.Cut at)) status before now a b x y (inl t) c e = absurd (omega (arith, e, t.0))
link_cause (Err (faults.Cut at)) status before now a b x y (inr t) c e = absurd (omega (arith, e, t.0))
link_cause (Err faults.TooManyFrames) status before now a b x y (inl t) c e = absurd (omega (arith, e, t.0))
link_cause (Err faults.TooManyFrames) status before now a b x y (inr t) c e = absurd (omega (arith, e, t.0))

-- there is no other status
few_statuses : (ended : Result Unit NodeFault) (status : ℕ) (before now : Option (List ℕ)) (a b : ℕ) → IsTold ended status before now a b → status ≤ 6
few_statuses (Ok u) status before now a b t = omega (arith, sure_status (Ok u) status before now a b (λ e. omega (arith, e)) t)
few_statuses (Err faults.Read) status before now a b t = omega (arith, sure_status (Err faults.Read) status before now a b (λ e. omega (arith, e)) t)
few_statuses (Err faults.Write) status before now a b t = omega (arith, sure_status (Err faults.Write) status before now a b (λ e. omega (arith, e)) t)
few_statuses (Err faults.Memory) status before now a b t = omega (arith, sure_status (Err faults.Memory) status before now a b (λ e. omega (arith, e)) t)
few_statuses (Err (faults.Frame at f)) status before now a b (inl t) = omega (arith, t.0)
few_statuses (Err (faults.Frame at f)) status before now a b (inr t) = omega (arith, t.0)
few_statuses (Err (faults.Cut at)) status before now a b (inl t) = omega (arith, t.0)
few_statuses (Err (faults.Cut at)) status before now a b (inr t) = omega (arith, t.0)
few_statuses (Err faults.TooManyFrames) status before now a b (inl t) = omega (arith, t.0)
few_statuses (Err faults.TooManyFrames) status before now a b (inr t) = omega (arith, t.0)

-- the link was attached once, at the name
attached_by : (ended : Result Unit NodeFault) (before now : Option (List (List ℕ))) (name : List ℕ) → Attaches before now name → AttachesBy ended before now name
attached_by (Ok u) before now name h = h
attached_by (Err faults.Read) before now name h = inl h
attached_by (Err faults.Write) before now name h = h
attached_by (Err faults.Memory) before now name h = inl h
attached_by (Err (faults.Frame at f)) before now name h = h
attached_by (Err (faults.Cut at)) before now name h = h
attached_by (Err faults.TooManyFrames) before now name h = h

pub attached_at : (ended : Result Unit NodeFault) (before then now : Option (List (List ℕ))) (name : List ℕ) → Attaches before then name → now ≡ then →
    AttachesBy ended before now name
attached_at ended before then now name h kept = attached_by ended before now name (subst (λ x. Attaches before x name) (sym kept) h)

most_by : (ended : Result Unit NodeFault) (before now : Option (List (List ℕ))) (name : List ℕ) → AttachesBy ended before now name → MayAttach before now name
most_by (Ok u) before now name h = inl h
most_by (Err faults.Read) before now name h = h
most_by (Err faults.Write) before now name h = inl h
most_by (Err faults.Memory) before now name h = h
most_by (Err (faults.Frame at f)) before now name h = inl h
most_by (Err (faults.Cut at)) before now name h = inl h
most_by (Err faults.TooManyFrames) before now name h = inl h

once_by : (ended : Result Unit NodeFault) (before now : Option (List (List ℕ))) (name : List ℕ) → AttachesBy ended before now name → end_status ended ≤ 1 → Attaches before now name
once_by (Ok u) before now name h k = h
once_by (Err faults.Read) before now name h k = absurd (omega (arith, k))
once_by (Err faults.Write) before now name h k = h
once_by (Err faults.Memory) before now name h k = absurd (omega (arith, k))
once_by (Err (faults.Frame at f)) before now name h k = h
once_by (Err (faults.Cut at)) before now name h k = h
once_by (Err faults.TooManyFrames) before now name h k = h

-- a low status is that of an end of status 0 or 1
low_end : (told : Result Unit NodeFault) (status : ℕ) (before now : Option (List ℕ)) (a b : ℕ) → IsTold told status before now a b → status ≤ 4 → end_status told ≤ 1
low_end (Ok u) status before now a b t k = omega arith
low_end (Err faults.Read) status before now a b t k = absurd (omega (arith, k, sure_status (Err faults.Read) status before now a b (λ e. omega (arith, e)) t))
low_end (Err faults.Write) status before now a b t k = absurd (omega (arith, k, sure_status (Err faults.Write) status before now a b (λ e. omega (arith, e)) t))
low_end (Err faults.Memory) status before now a b t k = absurd (omega (arith, k, sure_status (Err faults.Memory) status before now a b (λ e. omega (arith, e)) t))
low_end (Err (faults.Frame at f)) status before now a b t k = omega arith
low_end (Err (faults.Cut at)) status before now a b t k = omega arith
low_end (Err faults.TooManyFrames) status before now a b t k = omega arith

low_told : (ended told : Result Unit NodeFault) → MayTell ended told → end_status told ≤ 1 → end_status ended ≤ 1
low_told ended told (inl same) k = subst (λ e. end_status e ≤ 1) same k
low_told ended told (inr less) k = omega (arith, less.0)

names_told : (ended told : Result Unit NodeFault) (status : ℕ) (before now : Option (List ℕ)) (a b : ℕ)
    (names_before names_now : Option (List (List ℕ))) (name : List ℕ) →
    AttachesBy ended names_before names_now name → MayTell ended told → IsTold told status before now a b → IsAttached status names_before names_now name
names_told ended told status before now a b names_before names_now name h may t = record {
  most = most_by ended names_before names_now name h;
  once = λ k. once_by ended names_before names_now name h (low_told ended told may (low_end told status before now a b t k));
}

-- nothing is written about an end at a frame's boundary
pub nothing_told : (before : Option (List ℕ)) (a : ℕ) → IsTold (Ok tt) 0 before before a a
unfolding end_text
nothing_told before a = inl (refl, Appends-nil before, refl)

-- at status 0 and 1 no count rose
still_told : (told : Result Unit NodeFault) (status : ℕ) (before now : Option (List ℕ)) (a b x y : ℕ) → IsTold told status before now a b → HasCauses told x y →
    status ≤ 1 → (y ≡ x) × (b ≡ a)
still_told (Ok u) status before now a b x y (inl t) c k = (c, t.2)
still_told (Ok u) status before now a b x y (inr t) c k = absurd (omega (arith, t.3))
still_told (Err faults.Read) status before now a b x y t c k =
    absurd (omega (arith, k, sure_status (Err faults.Read) status before now a b (λ e. omega (arith, e)) t))
still_told (Err faults.Write) status before now a b x y t c k =
    absurd (omega (arith, k, sure_status (Err faults.Write) status before now a b (λ e. omega (arith, e)) t))
still_told (Err faults.Memory) status before now a b x y t c k =
    absurd (omega (arith, k, sure_status (Err faults.Memory) status before now a b (λ e. omega (arith, e)) t))
still_told (Err (faults.Frame at f)) status before now a b x y (inl t) c k = (c, t.2)
still_told (Err (faults.Frame at f)) status before now a b x y (inr t) c k = absurd (omega (arith, k, t.0))
still_told (Err (faults.Cut at)) status before now a b x y (inl t) c k = (c, t.2)
still_told (Err (faults.Cut at)) status before now a b x y (inr t) c k = absurd (omega (arith, k, t.0))
still_told (Err faults.TooManyFrames) status before now a b x y (inl t) c k = (c, t.2)
still_told (Err faults.TooManyFrames) status before now a b x y (inr t) c k = absurd (omega (arith, k, t.0))

-- at status 4 the count of the error sink rose
write_told : (told : Result Unit NodeFault) (status : ℕ) (before now : Option (List ℕ)) (a b : ℕ) → IsTold told status before now a b → status ≡ 4 → Rose a b
write_told (Ok u) status before now a b t k = absurd (omega (arith, k, sure_status (Ok u) status before now a b (λ e. omega (arith, e)) t))
write_told (Err faults.Read) status before now a b t k = absurd (omega (arith, k, sure_status (Err faults.Read) status before now a b (λ e. omega (arith, e)) t))
write_told (Err faults.Write) status before now a b t k = absurd (omega (arith, k, sure_status (Err faults.Write) status before now a b (λ e. omega (arith, e)) t))
write_told (Err faults.Memory) status before now a b t k = absurd (omega (arith, k, sure_status (Err faults.Memory) status before now a b (λ e. omega (arith, e)) t))
write_told (Err (faults.Frame at f)) status before now a b (inl t) k = absurd (omega (arith, k, t.0))
write_told (Err (faults.Frame at f)) status before now a b (inr t) k = t.2
write_told (Err (faults.Cut at)) status before now a b (inl t) k = absurd (omega (arith, k, t.0))
write_told (Err (faults.Cut at)) status before now a b (inr t) k = t.2
write_told (Err faults.TooManyFrames) status before now a b (inl t) k = absurd (omega (arith, k, t.0))
write_told (Err faults.TooManyFrames) status before now a b (inr t) k = t.2

-- neither 2 nor 3 comes
other_told : (told : Result Unit NodeFault) (status : ℕ) (before now : Option (List ℕ)) (a b : ℕ) → IsTold told status before now a b →
    (status ≤ 1) ⊎ (4 ≤ status)
other_told (Ok u) status before now a b t = inl (omega (arith, sure_status (Ok u) status before now a b (λ e. omega (arith, e)) t))
other_told (Err faults.Read) status before now a b t = inr (omega (arith, sure_status (Err faults.Read) status before now a b (λ e. omega (arith, e)) t))
other_told (Err faults.Write) status before now a b t = inr (omega (arith, sure_status (Err faults.Write) status before now a b (λ e. omega (arith, e)) t))
other_told (Err faults.Memory) status before now a b t = inr (omega (arith, sure_status (Err faults.Memory) status before now a b (λ e. omega (arith, e)) t))
other_told (Err (faults.Frame at f)) status before now a b (inl t) = inl (omega (arith, t.0))
other_told (Err (faults.Frame at f)) status before now a b (inr t) = inr (omega (arith, t.0))
other_told (Err (faults.Cut at)) status before now a b (inl t) = inl (omega (arith, t.0))
other_told (Err (faults.Cut at)) status before now a b (inr t) = inr (omega (arith, t.0))
other_told (Err faults.TooManyFrames) status before now a b (inl t) = inl (omega (arith, t.0))
other_told (Err faults.TooManyFrames) status before now a b (inr t) = inr (omega (arith, t.0))

-- a node was served, and its end was told
pub is_served : {Err Link Clock : Type 0} (id : NodeId) (name : List ℕ) (ended told : Result Unit NodeFault) (status : ℕ) (err : StreamUse Err)
    (link : LinkUse Link) (clock : ClockUse Clock) →
    ((n : Node) (readings : List Stamp) (ms : List Message) → RunsThrough n readings ms) → MayTell ended told →
    IfSome link.left (λ bytes. OfReadings clock.readings (λ rs. Writes ended link.written_before link.written_now (started_run id rs bytes))) →
    HasCauses ended link.faults_before link.faults_now → IsTold told status err.bytes_before err.bytes_now err.faults_before err.faults_now →
    AttachesBy ended link.attached_before link.attached_now name → IsServed id name status err link clock
is_served id name ended told status err link clock through may run causes t names =
    let ran = told_run ended told link.left link.written_before link.written_now clock.readings (started_run id) may run in
    let caused = told_causes ended told link.faults_before link.faults_now may causes in
    record {
      ended = told;
      run = ran;
      causes = caused;
      told = t;
      complete = completes id status link.left link.written_before link.written_now clock.readings link.faults_before link.faults_now
          err.bytes_before err.bytes_now err.faults_before err.faults_now told through ran caused t;
      names = names_told ended told status err.bytes_before err.bytes_now err.faults_before err.faults_now
          link.attached_before link.attached_now name names may t;
      still = still_told told status err.bytes_before err.bytes_now err.faults_before err.faults_now link.faults_before link.faults_now t caused;
      write = write_told told status err.bytes_before err.bytes_now err.faults_before err.faults_now t;
      broken = link_cause told status err.bytes_before err.bytes_now err.faults_before err.faults_now link.faults_before link.faults_now t caused;
      others = other_told told status err.bytes_before err.bytes_now err.faults_before err.faults_now t;
      known = few_statuses told status err.bytes_before err.bytes_now err.faults_before err.faults_now t;
    }
