-- Each call of a keeper, with what it has the program write and sync, is a move of the file's histories.
use Rattle.std.proofs.Common.{◌≡◌, ℕ, zero, suc, ◌+◌, ◌^◌, ◌<◌, ◌≤◌, Bool, true, false, List, [], ◌∷◌, ◌++◌, length, take, drop, refl, sym, ap, ◌∙◌, subst, append_assoc, append-nil, arith}
use Rattle.std.specs.Prelude.{Option, Some, map, not}
use Rattle.std.proofs.lemmas.List.{take_at, drop_at, length-append}
use Rattle.st_crc32c.specs.Crc.{crc32c}
use Rattle.st_journal_file.specs.Histories.{Gate, IsBehindKept, IsFirst, IsReached, Keeper, Moves, Makes, Opens, Prepares, Scribbles, Switches, SyncsGate, SyncsGroup, SyncsOther, SyncsSwitch, Writes, Phase, Blank, Forming, Formed, Marking, Idle, Writing, Written, Opening, Prepared, Switching, behind, closed_at, group_of, opened_at, with_area}
use Rattle.st_journal_file.specs.Layout.{CLOSED, OPEN, Format, File, IsArea, StandsFor, after_changes, all_opened, area_of, front, opened, part, switch_of, word32}
use Rattle.st_journal_file.proofs.Groups.{all_opened-append, leads_on, opened_parts}
use Rattle.st_journal_file.proofs.Held.{HoldsIn, IsOpening, IsWritten, reached}
use Rattle.st_journal_bytes.specs.Areas.{IsRead}
use Rattle.st_journal_bytes.specs.Plain.{HasSum, plain}
use Rattle.st_journal_bytes.specs.declared.area.AreaEnd.{AreaEnd}
use Rattle.st_journal_bytes.proofs.Scans.{gate_once}
use Rattle.st_kept_journal.specs.Driven.{GoesTo, IsAt, IsDriven, IsGateOf, IsGroupOf, IsPutInArea, IsPutInSwitch, IsSnapshot, IsSnapshotOf, KeepsGroupTo, MovesSwitchTo, OpensGateTo, SwitchesTo, WritesGroupTo, WritesSnapshotTo}
use Rattle.st_kept_journal.specs.Keeping.{Keeping, MovesSwitch, OpensGate, WritesGroup, WritesSnapshot, added, group_begun, group_kept, place_of, switch_begun, switched}
use Rattle.st_kept_journal.specs.declared.task.Task.{Task}
use Rattle.st_kept_journal.specs.declared.task.Task.TheVariants as tasks
use Rattle.st_kept_journal.specs.declared.task.Write.{Write}

-- equal lists whose first parts have one length have equal parts

first_same : (xs ys r q : List ℕ) → length xs ≡ length ys → xs ++ r ≡ ys ++ q → xs ≡ ys
first_same xs ys r q n e = sym (take_at xs r (length ys) n) ∙ (ap (λ (l : List ℕ). take (length ys) l) e ∙ take_at ys q (length ys) refl)

second_same : (xs ys r q : List ℕ) → length xs ≡ length ys → xs ++ r ≡ ys ++ q → r ≡ q
second_same xs ys r q n e = sym (drop_at xs r (length ys) n) ∙ (ap (λ (l : List ℕ). drop (length ys) l) e ∙ drop_at ys q (length ys) refl)

none_long : (xs : List ℕ) → length xs ≡ 0 → xs ≡ []
none_long [] e = refl
none_long (x ∷ xs) e = absurd (omega (arith, e))

-- one byte, and what follows it
tail_same : (was behind ys : List ℕ) (y : ℕ) → length was ≡ 1 → was ++ behind ≡ y ∷ ys → behind ≡ ys
tail_same was behind ys y n e = second_same was (y ∷ []) behind ys n e

more_wait : {C : Type 0} (group waiting : List C) (x : C) → IsFirst group waiting → IsFirst group (waiting ++ x ∷ [])
more_wait {C = C} group waiting x i =
    record { later = i.later ++ x ∷ []; parts = ap (λ (ys : List C). ys ++ x ∷ []) i.parts ∙ append_assoc group i.later (x ∷ []) }

all_first : {C : Type 0} (waiting : List C) → IsFirst waiting waiting
all_first waiting = record { later = []; parts = sym (append-nil waiting) }

area_with : (second : Bool) (bytes : List ℕ) (b : File) → area_of second (with_area second bytes b) ≡ bytes
area_with false bytes b = refl
area_with true bytes b = refl

module _ {S C : Type 0} (f : Format S C) (start : S) (header : List ℕ) (sum : HasSum f) where
  part_plain : (a : List ℕ) → part plain a ≡ part f a
  unfolding part
  part_plain a = rw (sum (word32 (length a)), sum a) refl

  opened_plain : (x : C) → opened plain (f.spelled x) ≡ opened f x
  opened_plain x = ap (λ (l : List ℕ). OPEN ∷ l) (part_plain (f.spelled x))

  all_opened-last : (xs : List C) (x : C) → all_opened f (xs ++ x ∷ []) ≡ all_opened f xs ++ opened f x
  all_opened-last xs x = all_opened-append f xs (x ∷ []) ∙ ap (λ (l : List ℕ). all_opened f xs ++ l) (append-nil (opened f x))

  -- A record waits.

  at_more : (j : Keeping) (k : Keeper S C) (bytes : List ℕ) (x : C) (t : Task) (p : Phase S C) → IsAt f start j k t p →
      IsAt f start (added j bytes) (record k { waiting = k.waiting ++ x ∷ [] }) t p
  at_more j k bytes x tasks.Rest Idle h = h
  at_more j k bytes x (tasks.Group count) (Writing g) h = h
  at_more j k bytes x (tasks.Group count) (Written g) h = h
  at_more j k bytes x (tasks.Group count) (Opening g) h = h
  at_more j k bytes x (tasks.Switch count gate) Idle h = record {
    group = h.group;
    snapshot = record {
      state = h.snapshot.state;
      rest = h.snapshot.rest;
      other = h.snapshot.other;
      place = h.snapshot.place;
      size = h.snapshot.size;
      first = more_wait h.group k.waiting x h.snapshot.first;
      leads = h.snapshot.leads;
    };
  }
  at_more j k bytes x (tasks.Switch count gate) (Prepared group) h =
      record { state = h.state; rest = h.rest; other = h.other; place = h.place; size = h.size; first = more_wait group k.waiting x h.first; leads = h.leads }
  at_more j k bytes x (tasks.Switch count gate) (Switching group) h =
      record { state = h.state; rest = h.rest; other = h.other; place = h.place; size = h.size; first = more_wait group k.waiting x h.first; leads = h.leads }
  at_more j k bytes x t p h = absurd h

  pub adds : (j : Keeping) (k : Keeper S C) (x : C) → IsDriven f start j k →
      GoesTo f start header (added j (f.spelled x)) k (record k { waiting = k.waiting ++ x ∷ [] })
  adds j k x d = record {
    moves = Makes x;
    driven = record {
      current = d.current;
      waiting = ap (λ (l : List ℕ). l ++ opened plain (f.spelled x)) d.waiting ∙
          (ap (λ (l : List ℕ). all_opened f k.waiting ++ l) (opened_plain x) ∙ sym (all_opened-last k.waiting x));
      at = at_more j k (f.spelled x) x j.task k.phase d.at;
    };
  }

  -- A group.

  at_rest_in : (j : Keeping) (k : Keeper S C) (t : Task) (p : Phase S C) → IsAt f start j k t p → t ≡ tasks.Rest →
      (p ≡ Idle) × IsGateOf f start (area_of j.second k.seen) j.gate k.kept
  at_rest_in j k tasks.Rest Idle h e = (refl, h)
  at_rest_in j k tasks.Rest Blank h e = absurd h
  at_rest_in j k tasks.Rest Forming h e = absurd h
  at_rest_in j k tasks.Rest Formed h e = absurd h
  at_rest_in j k tasks.Rest Marking h e = absurd h
  at_rest_in j k tasks.Rest (Writing g) h e = absurd h
  at_rest_in j k tasks.Rest (Written g) h e = absurd h
  at_rest_in j k tasks.Rest (Opening g) h e = absurd h
  at_rest_in j k tasks.Rest (Prepared group) h e = absurd h
  at_rest_in j k tasks.Rest (Switching group) h e = absurd h
  at_rest_in j k (tasks.Group count) p h e = absurd cc
  at_rest_in j k (tasks.Switch count gate) p h e = absurd cc

  -- over plain bytes: what is before the gate, the gate, a record and others, the next gate, and what follows
  regroup : (p x o r : List ℕ) → (p ++ CLOSED ∷ []) ++ (((x ++ o) ++ CLOSED ∷ []) ++ r) ≡ p ++ CLOSED ∷ (x ++ (o ++ CLOSED ∷ r))
  regroup p x o r = simp append_assoc

  pub begins_group : (j : Keeping) (k : Keeper S C) (w : Write) (x : C) (xs : List C) (file : File) → IsDriven f start j k → j.task ≡ tasks.Rest →
      k.waiting ≡ x ∷ xs → WritesGroup j w
      → IsPutInArea w j.area j.second k.seen file → WritesGroupTo f start header (group_begun j) k file
  begins_group j k w x xs file d t waits writes put = record {
    g = g;
    group = sym waits;
    file_so = file_is;
    goes = record {
      moves = Writes g rest.0 (subst (λ (ys : List C). IsFirst (group_of g) ys) (sym waits) (all_first (group_of g))) (record {
        rest = gate.rest;
        parts = ap (λ (b : Bool). area_of b k.seen) d.current ∙ gate.parts;
        leads = gate.leads;
        size = sizes;
      });
      driven = record {
        current = d.current;
        waiting = d.waiting;
        at = record { place = gate.at; size = ap length d.waiting ∙ ap (λ (ys : List C). length (all_opened f ys)) waits };
      };
    };
  }
    where
      rest : (k.phase ≡ Idle) × IsGateOf f start (area_of j.second k.seen) j.gate k.kept
      rest = at_rest_in j k j.task k.phase d.at t

      gate : IsGateOf f start (area_of j.second k.seen) j.gate k.kept
      gate = rest.1

      g : Gate S C
      g = record { snapshot = gate.snapshot; records = gate.records; first = x; others = xs; more = put.behind }

      head : List ℕ
      head = front f gate.snapshot gate.records

      whole : put.before ++ (put.was ++ put.behind) ≡ (head ++ CLOSED ∷ []) ++ gate.rest
      whole = sym put.parts ∙ (gate.parts ∙ sym (append_assoc head (CLOSED ∷ []) gate.rest))

      long : length put.before ≡ length (head ++ CLOSED ∷ [])
      long = omega (arith, put.place, writes.0, gate.at, length-append head (CLOSED ∷ []))

      before_is : put.before ≡ head ++ CLOSED ∷ []
      before_is = first_same put.before (head ++ CLOSED ∷ []) (put.was ++ put.behind) gate.rest long whole

      bytes_are : w.bytes.items ≡ (part f (f.spelled x) ++ all_opened f xs) ++ CLOSED ∷ []
      bytes_are = writes.1 ∙ ap (λ (l : List ℕ). drop 1 l ++ CLOSED ∷ []) (d.waiting ∙ ap (λ (ys : List C). all_opened f ys) waits)

      area_is : put.before ++ (w.bytes.items ++ put.behind) ≡ closed_at f g
      area_is =
          ap (λ (l : List ℕ). l ++ (w.bytes.items ++ put.behind)) before_is ∙
          (ap (λ (l : List ℕ). (head ++ CLOSED ∷ []) ++ (l ++ put.behind)) bytes_are ∙ regroup head (part f (f.spelled x)) (all_opened f xs) put.behind)

      file_is : file ≡ with_area k.current (closed_at f g) k.seen
      file_is = put.new_so ∙ (ap (λ (l : List ℕ). with_area j.second l k.seen) area_is ∙ ap (λ (b : Bool). with_area b (closed_at f g) k.seen) (sym d.current))

      same_long : length (put.before ++ (w.bytes.items ++ put.behind)) ≡ length (put.before ++ (put.was ++ put.behind))
      same_long =
          omega (
            arith,
            put.count,
            length-append put.before (w.bytes.items ++ put.behind),
            length-append put.before (put.was ++ put.behind),
            length-append w.bytes.items put.behind,
            length-append put.was put.behind,
          )

      sizes : length (closed_at f g) ≡ length (area_of k.current k.seen)
      sizes = sym (ap length area_is) ∙ (same_long ∙ sym (ap length (ap (λ (b : Bool). area_of b k.seen) d.current ∙ put.parts)))

  at_written : (j : Keeping) (k : Keeper S C) (g : Gate S C) (t : Task) → IsAt f start j k t (Writing g) →
      IsAt f start j (record k { phase = Written g; synced = k.seen }) t (Written g)
  at_written j k g tasks.Rest h = absurd h
  at_written j k g (tasks.Group count) h = h
  at_written j k g (tasks.Switch count gate) h = absurd h

  pub syncs_group : (j : Keeping) (k : Keeper S C) (g : Gate S C) → IsDriven f start j k → k.phase ≡ Writing g →
      GoesTo f start header j k (record k { phase = Written g; synced = k.seen })
  syncs_group j k g d e = record {
    moves = SyncsGroup g e;
    driven = record { current = d.current; waiting = d.waiting; at = at_written j k g j.task (subst (λ (p : Phase S C). IsAt f start j k j.task p) e d.at) };
  }

  at_opening : (j : Keeping) (k new : Keeper S C) (g : Gate S C) (t : Task) → IsAt f start j k t (Written g) → IsAt f start j new t (Opening g)
  at_opening j k new g tasks.Rest h = absurd h
  at_opening j k new g (tasks.Group count) h = h
  at_opening j k new g (tasks.Switch count gate) h = absurd h

  place_in : (j : Keeping) (k : Keeper S C) (g : Gate S C) (t : Task) → IsAt f start j k t (Written g) → j.gate ≡ length (front f g.snapshot g.records)
  place_in j k g tasks.Rest h = absurd h
  place_in j k g (tasks.Group count) h = h.place
  place_in j k g (tasks.Switch count gate) h = absurd h

  holds : (k : Keeper S C) (p : Phase S C) → IsReached f start header k → k.phase ≡ p → HoldsIn f start header p k
  holds k p r e = subst (λ (q : Phase S C). HoldsIn f start header q k) e (reached f start header k r)

  pub opens_gate : (j : Keeping) (k : Keeper S C) (w : Write) (g : Gate S C) (file : File) → IsReached f start header k → IsDriven f start j k →
      k.phase ≡ Written g → OpensGate j w
      → IsPutInArea w j.area j.second k.seen file → OpensGateTo f start header j k g file
  opens_gate j k w g file r d e writes put = record {
    file_so = put.new_so ∙ (ap (λ (l : List ℕ). with_area j.second l k.seen) area_is ∙ ap (λ (b : Bool). with_area b (opened_at f g) k.seen) (sym d.current));
    goes = record {
      moves = Opens g e;
      driven = record {
        current = d.current;
        waiting = d.waiting;
        at =
            at_opening j k (record k { phase = Opening g; seen = with_area k.current (opened_at f g) k.seen }) g j.task at_now;
      };
    };
  }
    where
      at_now : IsAt f start j k j.task (Written g)
      at_now = subst (λ (p : Phase S C). IsAt f start j k j.task p) e d.at

      held : IsWritten f start header g k
      held = holds k (Written g) r e

      head : List ℕ
      head = front f g.snapshot g.records

      whole : put.before ++ (put.was ++ put.behind) ≡ head ++ CLOSED ∷ behind f g
      whole = sym put.parts ∙ (ap (λ (b : Bool). area_of b k.seen) (sym d.current) ∙ held.is)

      long : length put.before ≡ length head
      long = omega (arith, put.place, writes.0, place_in j k g j.task at_now)

      before_is : put.before ≡ head
      before_is = first_same put.before head (put.was ++ put.behind) (CLOSED ∷ behind f g) long whole

      one : length put.was ≡ 1
      one = put.count ∙ ap length writes.1

      behind_is : put.behind ≡ behind f g
      behind_is = tail_same put.was put.behind (behind f g) CLOSED one (second_same put.before head (put.was ++ put.behind) (CLOSED ∷ behind f g) long whole)

      area_is : put.before ++ (w.bytes.items ++ put.behind) ≡ opened_at f g
      area_is =
          ap (λ (l : List ℕ). l ++ (w.bytes.items ++ put.behind)) before_is ∙
          (ap (λ (l : List ℕ). head ++ (l ++ put.behind)) writes.1 ∙ ap (λ (l : List ℕ). head ++ OPEN ∷ l) behind_is)

  group_in : (j : Keeping) (k : Keeper S C) (g : Gate S C) (count : ℕ) (t : Task) (p : Phase S C) → IsAt f start j k t p → t ≡ tasks.Group count →
      p ≡ Opening g → IsGroupOf f j.gate count g
  group_in j k g count t p h e q = subst (λ (o : Phase S C). IsAt f start j k (tasks.Group count) o) q (subst (λ (s : Task). IsAt f start j k s p) e h)

  -- what waits after a group is dropped
  drop_group : (group later : List C) (waiting : List ℕ) (all : List C) (count : ℕ) → waiting ≡ all_opened f all → all ≡ group ++ later →
      count ≡ length (all_opened f group) → drop count waiting ≡ all_opened f later
  drop_group group later waiting all count e p n =
      ap (λ (l : List ℕ). drop count l) (e ∙ (ap (λ (ys : List C). all_opened f ys) p ∙ all_opened-append f group later)) ∙
      drop_at (all_opened f group) (all_opened f later) count (sym n)

  front_more : (t : S) (xs ys : List C) → length (front f t (xs ++ ys)) ≡ length (front f t xs) + length (all_opened f ys)
  front_more t xs ys =
      omega (
        arith,
        length-append (part f (f.snapshot t)) (all_opened f (xs ++ ys)),
        length-append (part f (f.snapshot t)) (all_opened f xs),
        ap length (all_opened-append f xs ys),
        length-append (all_opened f xs) (all_opened f ys),
      )

  pub keeps_group : (j : Keeping) (k : Keeper S C) (g : Gate S C) (count : ℕ) → IsReached f start header k → IsDriven f start j k → k.phase ≡ Opening g →
      j.task ≡ tasks.Group count
      → KeepsGroupTo f start header (group_kept j count) k g
  keeps_group j k g count r d e t = record {
    later = held.first.later;
    waiting = held.first.parts;
    goes = record {
      moves = SyncsGate g held.first.later e held.first.parts;
      driven = record {
        current = d.current;
        waiting = drop_group (group_of g) held.first.later j.waiting k.waiting count d.waiting held.first.parts is.size;
        at = record {
          snapshot = g.snapshot;
          records = g.records ++ group_of g;
          rest = g.more;
          parts = ap (λ (b : Bool). area_of b k.seen) (sym d.current) ∙ (held.is ∙ opened_parts f g);
          at = omega (arith, is.place, is.size, front_more g.snapshot g.records (group_of g));
          leads = leads_on f g.snapshot start g.records k.kept (group_of g) held.leads;
        };
      };
    };
  }
    where
      held : IsOpening f start header g k
      held = holds k (Opening g) r e

      is : IsGroupOf f j.gate count g
      is = group_in j k g count j.task k.phase d.at t e

  -- A snapshot.

  pub writes_snapshot : (j : Keeping) (k : Keeper S C) (w : Write) (state : S) (file : File) → IsDriven f start j k → j.task ≡ tasks.Rest →
      WritesSnapshot j (f.snapshot state) w
      → IsPutInArea w j.area (not j.second) k.seen file → Some state ≡ after_changes f (Some start) (k.kept ++ k.waiting)
      → WritesSnapshotTo f start header (switch_begun j (f.snapshot state)) k file
  writes_snapshot j k w state file d t writes put leads = record {
    area = area;
    file_so = put.new_so ∙ ap (λ (b : Bool). with_area (not b) area k.seen) (sym d.current);
    goes = record {
      moves = Scribbles idle area;
      driven = record {
        current = d.current;
        waiting = d.waiting;
        at = subst
            (λ (p : Phase S C). IsAt f start (switch_begun j (f.snapshot state)) (record k { seen = with_area (not k.current) area k.seen })
            (tasks.Switch (length j.waiting) (length (part plain (f.snapshot state)))) p) (sym idle) (record {
              group = k.waiting;
              snapshot = record {
                state = state;
                rest = put.behind;
                other = ap (λ (b : Bool). area_of (not j.second) (with_area (not b) area k.seen)) d.current ∙ (area_with (not j.second) area k.seen ∙ area_is);
                place = ap length (part_plain (f.snapshot state));
                size = ap length d.waiting;
                first = all_first k.waiting;
                leads = leads;
              };
            });
      };
    };
  }
    where
      idle : k.phase ≡ Idle
      idle = (at_rest_in j k j.task k.phase d.at t).0

      area : List ℕ
      area = put.before ++ (w.bytes.items ++ put.behind)

      none : put.before ≡ []
      none = none_long put.before (omega (arith, put.place, writes.0))

      area_is : area ≡ part f (f.snapshot state) ++ CLOSED ∷ put.behind
      area_is =
          ap (λ (l : List ℕ). l ++ (w.bytes.items ++ put.behind)) none ∙ (ap (λ (l : List ℕ). l ++ put.behind) writes.1
          ∙ (append_assoc (part plain (f.snapshot state)) (CLOSED ∷ []) put.behind ∙
          ap (λ (l : List ℕ). l ++ CLOSED ∷ put.behind) (part_plain (f.snapshot state))))

  pub syncs_snapshot : (j : Keeping) (k : Keeper S C) → IsDriven f start j k → k.phase ≡ Idle → GoesTo f start header j k (record k { synced = k.seen })
  syncs_snapshot j k d e = record { moves = SyncsOther e; driven = record { current = d.current; waiting = d.waiting; at = at_synced j.task k.phase d.at } }
    where
      at_synced : (t : Task) (p : Phase S C) → IsAt f start j k t p → IsAt f start j (record k { synced = k.seen }) t p
      at_synced tasks.Rest Idle h = h
      at_synced (tasks.Group n) (Writing g) h = h
      at_synced (tasks.Group n) (Written g) h = h
      at_synced (tasks.Group n) (Opening g) h = h
      at_synced (tasks.Switch n m) Idle h = record {
        group = h.group;
        snapshot =
            record {
              state = h.snapshot.state;
              rest = h.snapshot.rest;
              other = h.snapshot.other;
              place = h.snapshot.place;
              size = h.snapshot.size;
              first =
                  h.snapshot.first;
              leads = h.snapshot.leads;
            };
      }
      at_synced (tasks.Switch n m) (Prepared group) h =
          record { state = h.state; rest = h.rest; other = h.other; place = h.place; size = h.size; first = h.first; leads = h.leads }
      at_synced (tasks.Switch n m) (Switching group) h =
          record { state = h.state; rest = h.rest; other = h.other; place = h.place; size = h.size; first = h.first; leads = h.leads }
      at_synced t p h = absurd h

  snapshot_in : (j : Keeping) (k : Keeper S C) (count gate : ℕ) (t : Task) (p : Phase S C) → IsAt f start j k t p → t ≡ tasks.Switch count gate → p ≡ Idle →
      IsSnapshot f start j k count gate
  snapshot_in j k count gate t p h e q = subst (λ (o : Phase S C). IsAt f start j k (tasks.Switch count gate) o) q
      (subst (λ (s : Task). IsAt f start j k s p) e h)

  -- an area that is a snapshot and a closed gate
  snapshot_stands : (j : Keeping) (k : Keeper S C) (count gate : ℕ) (group : List C) → IsDriven f start j k → IsSnapshotOf f start j k count gate group →
      StandsFor f start (area_of (not k.current) k.seen) (k.kept ++ group)
  snapshot_stands j k count gate group d s = record {
    snapshot = s.state;
    records = [];
    area = record {
      rest = s.rest;
      parts = ap (λ (b : Bool). area_of (not b) k.seen) d.current ∙
          (s.other ∙ ap (λ (l : List ℕ). l ++ CLOSED ∷ s.rest) (sym (append-nil (part f (f.snapshot s.state)))));
    };
    leads = s.leads;
  }

  pub prepares : (j : Keeping) (k : Keeper S C) (count gate : ℕ) → IsDriven f start j k → j.task ≡ tasks.Switch count gate → k.phase ≡ Idle → k.synced ≡ k.seen
      → (group : List C) × GoesTo f start header j k (record k { phase = Prepared group })
  prepares j k count gate d t e same =
      let is : IsSnapshot f start j k count gate = snapshot_in j k count gate j.task k.phase d.at t e in
      let s : IsSnapshotOf f start j k count gate is.group = is.snapshot in (
        is.group,
        record {
          moves = Prepares is.group e s.first same (snapshot_stands j k count gate is.group d s);
          driven = record {
            current = d.current;
            waiting = d.waiting;
            at = subst (λ (o : Task). IsAt f start j (record k { phase = Prepared is.group }) o (Prepared is.group)) (sym t)
                (record { state = s.state; rest = s.rest; other = s.other; place = s.place; size = s.size; first = s.first; leads = s.leads });
          };
        },
      )

  area_switched : (second : Bool) (n : ℕ) (b : File) → area_of second (record b { switch = n }) ≡ area_of second b
  area_switched false n b = refl
  area_switched true n b = refl

  pub moves_switch : (j : Keeping) (k : Keeper S C) (w : Write) (group : List C) (file : File) → IsDriven f start j k → k.phase ≡ Prepared group →
      MovesSwitch j w
      → IsPutInSwitch w k.seen file → MovesSwitchTo f start header j k group file
  moves_switch j k w group file d e writes put = record {
    file_so = put.new_so ∙ ap (λ (n : ℕ). record k.seen { switch = n }) mark_is;
    goes = record {
      moves = Switches group e;
      driven = record { current = d.current; waiting = d.waiting; at = at_switching j.task (subst (λ (p : Phase S C). IsAt f start j k j.task p) e d.at) };
    };
  }
    where
      one : (a b : ℕ) → a ∷ [] ≡ b ∷ [] → a ≡ b
      one a b h = cc

      mark_is : put.mark ≡ switch_of (not k.current)
      mark_is = one put.mark (switch_of (not k.current)) (sym put.bytes ∙ (writes.1 ∙ ap (λ (b : Bool). switch_of (not b) ∷ []) (sym d.current)))

      at_switching : (t : Task) → IsAt f start j k t (Prepared group) →
          IsAt f start j (record k { phase = Switching group; seen = record k.seen { switch = switch_of (not k.current) } }) t (Switching group)
      at_switching tasks.Rest h = absurd h
      at_switching (tasks.Group count) h = absurd h
      at_switching (tasks.Switch count gate) h = record {
        state = h.state;
        rest = h.rest;
        other = area_switched (not j.second) (switch_of (not k.current)) k.seen ∙ h.other;
        place = h.place;
        size = h.size;
        first = h.first;
        leads = h.leads;
      }

  switching_in : (j : Keeping) (k : Keeper S C) (count gate : ℕ) (group : List C) (t : Task) (p : Phase S C) → IsAt f start j k t p →
      t ≡ tasks.Switch count gate → p ≡ Switching group → IsSnapshotOf f start j k count gate group
  switching_in j k count gate group t p h e q = subst (λ (o : Phase S C). IsAt f start j k (tasks.Switch count gate) o) q
      (subst (λ (s : Task). IsAt f start j k s p) e h)

  pub switches : (j : Keeping) (k : Keeper S C) (count gate : ℕ) (group : List C) → IsDriven f start j k → j.task ≡ tasks.Switch count gate →
      k.phase ≡ Switching group
      → SwitchesTo f start header (switched j count gate) k group
  switches j k count gate group d t e =
      let s : IsSnapshotOf f start j k count gate group = switching_in j k count gate group j.task k.phase d.at t e in
      record {
        later = s.first.later;
        waiting = s.first.parts;
        goes = record {
          moves = SyncsSwitch group s.first.later e s.first.parts;
          driven = record {
            current = ap not d.current;
            waiting = drop_group group s.first.later j.waiting k.waiting count d.waiting s.first.parts s.size;
            at = record {
              snapshot = s.state;
              records = [];
              rest = s.rest;
              parts = s.other ∙ ap (λ (l : List ℕ). l ++ CLOSED ∷ s.rest) (sym (append-nil (part f (f.snapshot s.state))));
              at = s.place ∙ ap length (sym (append-nil (part f (f.snapshot s.state))));
              leads = s.leads;
            };
          };
        };
      }

  -- Opening: the area that counts stands for what is kept, and its closed gate is the one that was read.

  all_plain : (xs : List C) → all_opened plain (map f.spelled xs) ≡ all_opened f xs
  all_plain [] = refl
  all_plain (x ∷ xs) = ap (λ (l : List ℕ). l ++ all_opened plain (map f.spelled xs)) (opened_plain x) ∙ ap (λ (l : List ℕ). opened f x ++ l) (all_plain xs)

  front_plain : (t : S) (xs : List C) → front plain (f.snapshot t) (map f.spelled xs) ≡ front f t xs
  front_plain t xs = ap (λ (l : List ℕ). l ++ all_opened plain (map f.spelled xs)) (part_plain (f.snapshot t)) ∙
      ap (λ (l : List ℕ). part f (f.snapshot t) ++ l) (all_plain xs)

  gate_read : (bytes : List ℕ) (t : S) (xs : List C) (e : AreaEnd) → length bytes < 2 ^ 32 → IsRead bytes e → IsArea f bytes t xs →
      e.gate ≡ length (front f t xs)
  gate_read bytes t xs e few r a =
      gate_once bytes (f.snapshot t) (map f.spelled xs) e few r
      (record { rest = a.rest; parts = a.parts ∙ ap (λ (l : List ℕ). l ++ CLOSED ∷ a.rest) (sym (front_plain t xs)) })
      ∙ ap length (front_plain t xs)

  pub opens : (k : Keeper S C) (area : ℕ) (e : AreaEnd) → k.phase ≡ Idle → k.waiting ≡ [] → StandsFor f start (area_of k.current k.seen) k.kept →
      length (area_of k.current k.seen) < 2 ^ 32
      → IsRead (area_of k.current k.seen) e → IsDriven f start (record { area = area; second = k.current; gate = e.gate; waiting = []; task = tasks.Rest }) k
  opens k area e idle none s few r = record {
    current = refl;
    waiting = ap (λ (ys : List C). all_opened f ys) (sym none);
    at = subst (λ (p : Phase S C). IsAt f start (record { area = area; second = k.current; gate = e.gate; waiting = []; task = tasks.Rest }) k tasks.Rest p)
        (sym idle)
        (record {
          snapshot = s.snapshot;
          records = s.records;
          rest = s.area.rest;
          parts = s.area.parts;
          at =
              gate_read (area_of k.current k.seen) s.snapshot s.records e few r s.area;
          leads = s.leads;
        });
  }
