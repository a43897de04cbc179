-- Each call of a server, with the write or the sync that its program does then, in the histories of its journal's file.
use Rattle.st_lemmas.proofs.Words
use Words.{◌≡◌, ◌≢◌, ◌⊎◌, ℕ, ◌+◌, ◌-◌, ◌^◌, ◌<◌, ◌≤◌, Bool, true, false, cond, not, List, [], ◌∷◌, ◌++◌, length, Option, Some, None, refl, sym, ap, subst, ◌∙◌, inl, inr, arith, append_assoc, append-nil, length-append, and_parts, leb-true, true≢false, is_some, nat_lt, nat_le, ltb-false}
use Words.{Output, Stamp, ServerInput}
use Words.Server.{Stable}
use Words.Tables.{cond_either}
use Rattle.st_durable.specs.Durable.{IsMade, Tells}
use Rattle.st_extents.specs.Layout.{Shape}
use Rattle.st_held_steps.specs.Held as held
use Rattle.st_held_steps.specs.Held.{Held}
use Rattle.st_journal.specs.declared.change.Change.{Change}
use Rattle.st_journal_bytes.specs.Moments.{Dated, dated}
use Rattle.st_journal_file.specs.Histories.{Gate, GoesOn, IsBegunBy, IsReached, Keeper, Phase, group_of}
use Rattle.st_journal_file.specs.Histories as phases
use Rattle.st_journal_file.specs.Layout.{File, after_changes, all_opened}
use Rattle.st_kept_journal.specs.Driven.{GoesTo, IsPutInArea, IsPutInSwitch}
use Rattle.st_kept_journal.specs.Keeping.{Keeping, MovesSwitch, OpensGate, WritesSnapshot, group_kept, switch_begun, switched}
use Rattle.st_kept_journal.specs.declared.task.Task.{Task}
use Rattle.st_kept_journal.specs.declared.task.Task.TheVariants as tasks
use Rattle.st_kept_journal.specs.declared.task.Write.{Write}
use Rattle.st_kept_journal.proofs.Driven as driven
use Rattle.st_server_states.specs.States.{Keeps, RangedChange, State, states}
use Rattle.st_snapshot.specs.Snapshots.{snapshot}
use Rattle.st_kept_histories.specs.Histories.{Covers, IsAtStage, IsBeside, IsKeptIn, IsStateOf, Makes, MakesAny, Past, SyncsTo, WritesTo}
use Rattle.st_kept_histories.specs.Kept.{BeginsGroup, BeginsSnapshot, Ends, IsRecorded, KeptServer, Starves, Steps, WritesEnd, ended, is_in_time, moment_after, runs, snapshot_of, stable_now, synced, synced_at, taken, with_change}
use Rattle.st_kept_histories.specs.declared.stage.Stage.{Stage}
use Rattle.st_kept_histories.specs.declared.stage.Stage.TheVariants as stages
use Rattle.st_kept_histories.proofs.Beside as beside
use Rattle.st_kept_histories.proofs.Changed.{F, made_is_changed, one_more, state_after, sum}

-- the moment of a step is not before that of the last one
in_time : (last : ℕ) (now : Stamp) → is_in_time last now ≡ true → (last ≤ now.0) × (now.0 ≤ 2 ^ 62)
in_time last now e = let both = and_parts (nat_le last now.0) (nat_le now.0 (2 ^ 62)) e in (leb-true last now.0 both.0, leb-true now.0 (2 ^ 62) both.1)

module _ (s : Shape) (k : Keeps s) (start : Dated (State s)) (header : List ℕ) (first : ℕ) where
  abbrev In : KeptServer → Past s → Type 0
  In e p = IsKeptIn s k start header first e p

  abbrev Beside : Keeping → Stage → ℕ → ℕ → ℕ → Past s → Type 0
  Beside j stage covered made kept p = IsBeside (F s k) start header first j stage covered made kept p

  -- a change as one of the file's histories
  abbrev dated_change : (now : ℕ) → now ≤ 2 ^ 62 → (c : Change) → Rattle.st_journal.specs.Changes.fits c ≡ true → Dated RangedChange
  dated_change now small c ranges = record { moment = now; fits = omega (arith, small); made = record { change = c; ranges = ranges } }

  -- Steps.
  module _ (old new : KeptServer) (p : Past s) (now : Stamp) (h : In old p) where
    -- the stable part stayed, and so did the file
    stayed : new.journal ≡ old.journal → new.stage ≡ old.stage → new.covered ≡ old.covered → new.steps.made ≡ old.steps.made → new.steps.kept ≡ old.steps.kept →
        (runs new ≡ true → runs old ≡ true) → stable_now new ≡ stable_now old → new.moment ≡ old.moment → new.moment ≤ new.last → In new p
    stayed a b c d e on same moment early = record {
      beside = beside.beside_same (F s k) start header first old.journal new.journal old.stage new.stage old.covered new.covered old.steps.made new.steps.made
          old.steps.kept new.steps.kept p a b c d e h.beside;
      state = record {
        state = h.state.state;
        leads = h.state.leads;
        same = λ r. h.state.same (on r) ∙ sym same;
        moment = λ r. h.state.moment (on r) ∙ sym moment;
        early = early;
      };
      counted = λ r. let count = h.counted (on r) in omega (arith, count, d);
    }

    -- a change was made, and it waits
    module _ (c : Change) (m : IsMade (stable_now old) (stable_now new) c) (r : runs old ≡ true) (t : is_in_time old.last now ≡ true) where
      abbrev x : Dated RangedChange
      x = dated_change now.0 (in_time old.last now t).1 c m.ranges

      abbrev q : Past s
      q = record p { waiting = p.waiting ++ x ∷ [] }

      not_before : h.state.state.moment ≤ now.0
      not_before =
          let at = h.state.moment r in
          let early = h.state.early in
          let later = (in_time old.last now t).0 in
          omega (arith, at, early, later)

      follows : (v : Dated (State s)) ×
          ((Rattle.st_journal_bytes.specs.Moments.apply_dated (states s k) h.state.state x ≡ Some v) × ((v.made.stable ≡ stable_now new) × (v.moment ≡ now.0)))
      follows =
          state_after s k h.state.state x (stable_now new) not_before
          (ap (λ (u : Stable). Rattle.st_stable_file.specs.Stables.changed u c) (h.state.same r) ∙ made_is_changed (stable_now old) (stable_now new) c m)

      grown : (made2 : ℕ) → made2 ≤ old.steps.made + 1 → new.journal ≡ with_change old.journal now.0 (Some c) → new.stage ≡ old.stage →
          new.covered ≡ old.covered →
          new.steps.made ≡ made2 → new.steps.kept ≡ old.steps.kept → (runs new ≡ true → new.moment ≡ now.0) → new.moment ≤ new.last →
          (runs new ≡ true → made2 ≡ old.steps.made + 1) → In new q
      grown made2 few a b d e g moment early counts = record {
        beside = beside.beside_same (F s k) start header first (with_change old.journal now.0 (Some c)) new.journal old.stage new.stage old.covered new.covered
            made2 new.steps.made
            old.steps.kept new.steps.kept q a b d e g
            (beside.beside_more (F s k) start header first (sum s k) old.journal old.stage old.covered old.steps.made made2 old.steps.kept p x few h.beside);
        state = record {
          state = follows.0;
          leads = one_more s k start h.state.state follows.0 p.kept p.waiting x h.state.leads follows.1.0;
          same = λ o. follows.1.1.0;
          moment = λ o. follows.1.1.1 ∙ sym (moment o);
          early = early;
        };
        counted = λ o. let count = h.counted r in let more = counts o in omega (arith, count, more, e, length-append p.waiting (x ∷ []));
      }

      makes : Makes s p q now.0 c
      makes = record { made = x; change_so = refl; moment = refl; waits = refl }

  pub steps_in : (old new : KeptServer) (p : Past s) (now : Stamp) (input : ServerInput) → In old p → Steps old new now input →
      (q : Past s) × (MakesAny s p q now.0 new.server.changed × In new q)
  steps_in old new p now input h e = by new.server.changed refl e.told
    where
      r : runs old ≡ true
      r = e.may.runs_so

      late : (old.last ≤ now.0) × (now.0 ≤ 2 ^ 62)
      late = in_time old.last now e.may.in_time

      by : (o : Option Change) → new.server.changed ≡ o → Tells (stable_now old) (stable_now new) o → (q : Past s) × (MakesAny s p q now.0 o × In new q)
      by None z same =
          let moment : new.moment ≡ old.moment = e.moment ∙ ap (λ (o : Option Change). moment_after old.moment now.0 (is_some o)) z in
          let early = h.state.early in (
            p,
            (
              refl,
              stayed old new p now h (e.journal ∙ ap (λ (o : Option Change). with_change old.journal now.0 o) z) e.stage e.covered
                  (ap (λ (x : Held (List Output)). x.made) e.steps ∙ ap (λ (o : Option Change). held.made_after old.steps.made (is_some o)) z)
                  (ap (λ (x : Held (List Output)). x.kept) e.steps) (λ o. r) same moment (omega (arith, moment, early, late.0, e.last)),
            ),
          )
      by (Some c) z m =
          let moment : new.moment ≡ now.0 = e.moment ∙ ap (λ (o : Option Change). moment_after old.moment now.0 (is_some o)) z in (
            q old new p now h c m r e.may.in_time,
            (
              makes old new p now h c m r e.may.in_time,
              grown old new p now h c m r e.may.in_time (old.steps.made + 1) (omega arith)
                  (e.journal ∙ ap (λ (o : Option Change). with_change old.journal now.0 o) z) e.stage e.covered
                  (ap (λ (x : Held (List Output)). x.made) e.steps ∙ ap (λ (o : Option Change). held.made_after old.steps.made (is_some o)) z)
                  (ap (λ (x : Held (List Output)). x.kept) e.steps) (λ o. moment) (omega (arith, moment, e.last)) (λ o. refl),
            ),
          )

  pub starves_in : (old new : KeptServer) (p : Past s) (now : Stamp) (input : ServerInput) → In old p → Starves old new now input →
      (q : Past s) × ((change : Option Change) × (MakesAny s p q now.0 change × In new q))
  starves_in old new p now input h e = by e.journal
    where
      late : (old.last ≤ now.0) × (now.0 ≤ 2 ^ 62)
      late = in_time old.last now e.may.in_time

      off : runs new ≡ true → ⊥
      off o = true≢false (sym o ∙ e.stopped)

      early : new.moment ≤ new.last
      early = let before = h.state.early in omega (arith, before, e.moment, late.0, e.last)

      by : (new.journal ≡ old.journal) ⊎ IsRecorded old new now → (q : Past s) × ((change : Option Change) × (MakesAny s p q now.0 change × In new q))
      by (inl a) = (
        p,
        (
          None,
          (
            refl,
            record {
              beside = beside.beside_same (F s k) start header first old.journal new.journal old.stage new.stage old.covered new.covered old.steps.made
                  new.steps.made
                  old.steps.kept new.steps.kept p a e.stage e.covered (ap (λ (x : Held (List Output)). x.made) e.steps)
                  (ap (λ (x : Held (List Output)). x.kept) e.steps) h.beside;
              state = record {
                state = h.state.state;
                leads = h.state.leads;
                same = λ o. absurd (off o);
                moment = λ o. absurd (off o);
                early = early;
              };
              counted = λ o. absurd (off o);
            },
          ),
        ),
      )
      by (inr w) = (
        q old new p now h w.change w.made e.may.runs_so e.may.in_time,
        (
          Some w.change,
          (
            makes old new p now h w.change w.made e.may.runs_so e.may.in_time,
            grown old new p now h w.change w.made e.may.runs_so e.may.in_time old.steps.made (omega arith) w.journal e.stage e.covered
                (ap (λ (x : Held (List Output)). x.made) e.steps) (ap (λ (x : Held (List Output)). x.kept) e.steps) (λ o. absurd (off o)) early
                (λ o. absurd (off o)),
          ),
        ),
      )

  -- Writes.

  -- the same state, beside a file that was written
  state_on : (e : KeptServer) (p q : Past s) → q.kept ++ q.waiting ≡ p.kept ++ p.waiting → IsStateOf s k start e p → IsStateOf s k start e q
  state_on e p q same h = record {
    state = h.state;
    leads = ap (λ xs. after_changes (F s k) (Some start) xs) same ∙ h.leads;
    same = h.same;
    moment = h.moment;
    early = h.early;
  }

  -- the same state of a server with other steps, or another stage
  state_of : (e e2 : KeptServer) (p : Past s) → e2.server ≡ e.server → e2.moment ≡ e.moment → e2.last ≡ e.last → IsStateOf s k start e p →
      IsStateOf s k start e2 p
  state_of e e2 p a b c h =
      let early = h.early in
      record {
        state = h.state;
        leads = h.leads;
        same = λ r. h.same (sym (ap (λ d. d.node.running) a) ∙ r) ∙ sym (ap (λ d. d.node.state.stable) a);
        moment = λ r. h.moment (sym (ap (λ d. d.node.running) a) ∙ r) ∙ sym b;
        early = omega (arith, early, b, c);
      }

  some_waits : (waiting : List (Dated RangedChange)) (bytes : List ℕ) → bytes ≡ all_opened (F s k) waiting → bytes ≢ [] →
      (x : Dated RangedChange) × ((xs : List (Dated RangedChange)) × (waiting ≡ x ∷ xs))
  some_waits [] bytes e n = absurd (n e)
  some_waits (x ∷ xs) bytes e n = (x, (xs, refl))

  pub group_in : (old new : KeptServer) (p : Past s) (w : Write) (file : File) → In old p → BeginsGroup old new w →
      IsPutInArea w old.journal.area old.journal.second p.seen file → (q : Past s) × (WritesTo s p q file × In new q)
  group_in old new p w file h b put =
      let rest = beside.at_rest old.stage old.journal.task p.phase b.rest h.beside.at in
      let some = some_waits p.waiting old.journal.waiting h.beside.driven.waiting b.some in
      let to = driven.begins_group (F s k) start header (sum s k) old.journal p w some.0 some.1.0 file h.beside.driven rest.0 some.1.1 b.write put in
      let waits = h.beside.waits in
      let next : KeptServer =
      record old
      { journal = Rattle.st_kept_journal.specs.Keeping.group_begun old.journal; stage = stages.Writing; covered = old.steps.made - old.steps.kept } in
      let q : Past s =
      record p {
        phase = phases.Writing to.g;
        seen = Rattle.st_journal_file.specs.Histories.with_area p.current
            (Rattle.st_journal_file.specs.Histories.closed_at (F s k) to.g) p.seen;
      } in (
        q,
        (
          record { seen = sym to.file_so; synced = refl; kept = refl; waiting = refl },
          subst (λ (e : KeptServer). In e q) (sym b.new_so) (record {
            beside = beside.beside_on (F s k) start header first old.journal next.journal stages.Writing next.covered old.steps.made old.steps.kept p q
                h.beside.reached to.goes
                tt h.beside.kept_so h.beside.waits
                (beside.covers_all (F s k) old.journal old.steps.made old.steps.kept p.waiting h.beside.driven.waiting h.beside.waits);
            state = state_of old next q refl refl refl (state_on old p q refl h.state);
            counted = h.counted;
          }),
        ),
      )

  pub snapshot_in : (old new : KeptServer) (p : Past s) (w : Write) (file : File) → In old p → BeginsSnapshot old new w →
      IsPutInArea w old.journal.area (not old.journal.second) p.seen file → (q : Past s) × (WritesTo s p q file × In new q)
  snapshot_in old new p w file h b put =
      let rest = beside.at_rest old.stage old.journal.task p.phase b.rest h.beside.at in
      let spelled : (F s k).snapshot h.state.state ≡ snapshot_of old.moment (stable_now old) =
      ap (λ (n : ℕ). snapshot_of n h.state.state.made.stable) (h.state.moment b.runs_so) ∙
      ap (λ (t : Stable). snapshot_of old.moment t) (h.state.same b.runs_so) in
      let writes : WritesSnapshot old.journal ((F s k).snapshot h.state.state) w =
      subst (λ (l : List ℕ). WritesSnapshot old.journal l w) (sym spelled) b.write in
      let to = driven.writes_snapshot (F s k) start header (sum s k) old.journal p w h.state.state file h.beside.driven rest.0 writes put (sym h.state.leads) in
      let next : KeptServer =
      record old { journal = switch_begun old.journal ((F s k).snapshot h.state.state); stage = stages.Writing; covered = old.steps.made - old.steps.kept }
      in
      let is : new ≡ next =
      b.new_so ∙ ap (λ (l : List ℕ). record old { journal = switch_begun old.journal l; stage = stages.Writing; covered = old.steps.made - old.steps.kept })
      (sym spelled) in
      let q : Past s = record p { seen = Rattle.st_journal_file.specs.Histories.with_area (not p.current) to.area p.seen } in (
        q,
        (
          record { seen = sym to.file_so; synced = refl; kept = refl; waiting = refl },
          subst (λ (e : KeptServer). In e q) (sym is) (record {
            beside = beside.beside_on (F s k) start header first old.journal next.journal stages.Writing next.covered old.steps.made old.steps.kept p q
                h.beside.reached to.goes
                (subst (λ (o : Phase (Dated (State s)) (Dated RangedChange)). IsAtStage stages.Writing next.journal.task o) (sym rest.1) tt) h.beside.kept_so
                h.beside.waits
                (beside.covers_all (F s k) old.journal old.steps.made old.steps.kept p.waiting h.beside.driven.waiting h.beside.waits);
            state = state_of old next q refl refl refl (state_on old p q refl h.state);
            counted = h.counted;
          }),
        ),
      )

  -- what is under way, by its task
  at_task : (t t2 : Task) (stage : Stage) (o : Phase (Dated (State s)) (Dated RangedChange)) → t ≡ t2 → IsAtStage stage t2 o → IsAtStage stage t o
  at_task t t2 stage o e h = subst (λ (x : Task). IsAtStage stage x o) (sym e) h

  pub gate_in : (old new : KeptServer) (p : Past s) (w : Write) (file : File) (count : ℕ) → In old p → Ends old new w → old.journal.task ≡ tasks.Group count →
      IsPutInArea w old.journal.area old.journal.second p.seen file → (q : Past s) × (WritesTo s p q file × In new q)
  gate_in old new p w file count h b task put =
      let at = beside.at_written count old.stage old.journal.task p.phase b.written task h.beside.at in
      let writes : OpensGate old.journal w = subst (λ (t : Task). WritesEnd old.journal t w) task b.write in
      let to = driven.opens_gate (F s k) start header (sum s k) old.journal p w at.0 file h.beside.reached h.beside.driven at.1 writes put in
      let next : KeptServer = record old { stage = stages.Ending } in
      let q : Past s =
      record p {
        phase = phases.Opening at.0;
        seen = Rattle.st_journal_file.specs.Histories.with_area p.current
            (Rattle.st_journal_file.specs.Histories.opened_at (F s k) at.0) p.seen;
      } in (
        q,
        (
          record { seen = sym to.file_so; synced = refl; kept = refl; waiting = refl },
          subst (λ (e : KeptServer). In e q) (sym b.new_so) (record {
            beside = beside.beside_on (F s k) start header first old.journal old.journal stages.Ending old.covered old.steps.made old.steps.kept p q
                h.beside.reached to.goes
                (at_task old.journal.task (tasks.Group count) stages.Ending (phases.Opening at.0) task tt) h.beside.kept_so h.beside.waits h.beside.covers;
            state = state_of old next q refl refl refl (state_on old p q refl h.state);
            counted = h.counted;
          }),
        ),
      )

  pub switch_in : (old new : KeptServer) (p : Past s) (w : Write) (file : File) (count gate : ℕ) → In old p → Ends old new w →
      old.journal.task ≡ tasks.Switch count gate →
      IsPutInSwitch w p.seen file → (q : Past s) × (WritesTo s p q file × In new q)
  switch_in old new p w file count gate h b task put =
      let at = beside.at_prepared count gate old.stage old.journal.task p.phase b.written task h.beside.at in
      let writes : MovesSwitch old.journal w = subst (λ (t : Task). WritesEnd old.journal t w) task b.write in
      let to = driven.moves_switch (F s k) start header (sum s k) old.journal p w at.0 file h.beside.driven at.1 writes put in
      let next : KeptServer = record old { stage = stages.Ending } in
      let q : Past s =
      record p { phase = phases.Switching at.0; seen = record p.seen { switch = Rattle.st_journal_file.specs.Layout.switch_of (not p.current) } } in (
        q,
        (
          record { seen = sym to.file_so; synced = refl; kept = refl; waiting = refl },
          subst (λ (e : KeptServer). In e q) (sym b.new_so) (record {
            beside = beside.beside_on (F s k) start header first old.journal old.journal stages.Ending old.covered old.steps.made old.steps.kept p q
                h.beside.reached to.goes
                (at_task old.journal.task (tasks.Switch count gate) stages.Ending (phases.Switching at.0) task tt) h.beside.kept_so h.beside.waits
                h.beside.covers;
            state = state_of old next q refl refl refl (state_on old p q refl h.state);
            counted = h.counted;
          }),
        ),
      )

  -- Syncs.

  -- how many changes are kept then

  kept_most : (made kept covered : ℕ) → (cond (nat_lt (kept + covered) made) (kept + covered) made) ≤ kept + covered
  kept_most made kept covered =
      cond_either (λ (n : ℕ). n ≤ kept + covered) (nat_lt (kept + covered) made) (kept + covered) made (λ q. omega arith)
      (λ q. let l = ltb-false (kept + covered) made q in omega (arith, l))

  kept_least : (made kept covered later : ℕ) → made ≤ kept + covered + later → made ≤ (cond (nat_lt (kept + covered) made) (kept + covered) made) + later
  kept_least made kept covered later m =
      cond_either (λ (n : ℕ). made ≤ n + later) (nat_lt (kept + covered) made) (kept + covered) made (λ q. m) (λ q. omega arith)

  abbrev To : KeptServer → Past s → Type 0
  To e p = (q : Past s) × (SyncsTo s p q × In (synced e) q)

  -- the server after a sync, by its stage and its task
  as_synced : (e e2 : KeptServer) (q : Past s) → synced e ≡ e2 → In e2 q → In (synced e) q
  as_synced e e2 q same h = subst (λ (x : KeptServer). In x q) (sym same) h

  nothing_kept : (p q : Past s) → q.synced ≡ p.seen → q.seen ≡ p.seen → q.kept ≡ p.kept → q.waiting ≡ p.waiting → SyncsTo s p q
  nothing_kept p q a b c d = record {
    synced = a;
    seen = b;
    changes = ap (λ xs. xs ++ q.waiting) c ∙ ap (λ xs. p.kept ++ xs) d;
    kept = record { others = []; parts = c ∙ sym (append-nil p.kept) };
  }

  writing_group : (e : KeptServer) (p : Past s) (count : ℕ) → In e p → e.stage ≡ stages.Writing → e.journal.task ≡ tasks.Group count → To e p
  writing_group e p count h stage task =
      let at = beside.at_writing count e.stage e.journal.task p.phase stage task h.beside.at in
      let goes = driven.syncs_group (F s k) start header (sum s k) e.journal p at.0 h.beside.driven at.1 in
      let q : Past s = record p { phase = phases.Written at.0; synced = p.seen } in
      let next : KeptServer = record e { stage = stages.Written } in (
        q,
        (
          nothing_kept p q refl refl refl refl,
          as_synced e next q (ap (synced_at e) stage) (record {
            beside = beside.beside_on (F s k) start header first e.journal e.journal stages.Written e.covered e.steps.made e.steps.kept p q h.beside.reached
                goes
                (at_task e.journal.task (tasks.Group count) stages.Written (phases.Written at.0) task tt) h.beside.kept_so h.beside.waits h.beside.covers;
            state = state_of e next q refl refl refl (state_on e p q refl h.state);
            counted = h.counted;
          }),
        ),
      )

  writing_snapshot : (e : KeptServer) (p : Past s) (count gate : ℕ) → In e p → e.stage ≡ stages.Writing → e.journal.task ≡ tasks.Switch count gate → To e p
  writing_snapshot e p count gate h stage task =
      let idle = beside.at_idle count gate e.stage e.journal.task p.phase stage task h.beside.at in
      let goes = driven.syncs_snapshot (F s k) start header (sum s k) e.journal p h.beside.driven idle in
      let between : Past s = record p { synced = p.seen } in
      let to = driven.prepares (F s k) start header (sum s k) e.journal between count gate goes.driven task idle refl in
      let q : Past s = record between { phase = phases.Prepared to.0 } in
      let next : KeptServer = record e { stage = stages.Written } in (
        q,
        (
          nothing_kept p q refl refl refl refl,
          as_synced e next q (ap (synced_at e) stage) (record {
            beside = beside.beside_on (F s k) start header first e.journal e.journal stages.Written e.covered e.steps.made e.steps.kept between q
                (GoesOn p between h.beside.reached goes.moves) to.1
                (at_task e.journal.task (tasks.Switch count gate) stages.Written (phases.Prepared to.0) task tt) h.beside.kept_so h.beside.waits
                h.beside.covers;
            state = state_of e next q refl refl refl (state_on e p q refl h.state);
            counted = h.counted;
          }),
        ),
      )

  -- a group is kept
  module _ (e : KeptServer) (p : Past s) (h : In e p) (j2 : Keeping) (group later : List (Dated RangedChange)) (parts : p.waiting ≡ group ++ later) where
    abbrev next : KeptServer
    next = record e { journal = j2; steps = held.kept_more e.steps e.covered; stage = stages.Rest }

    ends : (count : ℕ) (q : Past s) → IsReached (F s k) start header p → GoesTo (F s k) start header j2 p q → q.synced ≡ p.seen → q.seen ≡ p.seen →
        q.kept ≡ p.kept ++ group →
        q.waiting ≡ later → q.phase ≡ phases.Idle → j2.task ≡ tasks.Rest →
        Rattle.st_kept_histories.specs.Histories.IsCovered (F s k) count e.covered e.steps.made e.steps.kept p.waiting →
        count ≡ length (all_opened (F s k) group) → synced e ≡ next → To e p
    ends count q r goes a b c d idle rest covers size same =
        let few = beside.covered_few (F s k) count e.covered e.steps.made e.steps.kept p.waiting group later covers parts size in
        let most = kept_most e.steps.made e.steps.kept e.covered in
        let least = kept_least e.steps.made e.steps.kept e.covered (length later) few.1 in
        let kept_so = h.beside.kept_so in
        let long = ap length c in
        let all : q.kept ++ q.waiting ≡ p.kept ++ p.waiting =
        ap (λ xs. xs ++ q.waiting) c ∙ (ap (λ xs. (p.kept ++ group) ++ xs) d ∙ (append_assoc p.kept group later ∙ ap (λ xs. p.kept ++ xs) (sym parts))) in (
          q,
          (
            record { synced = a; seen = b; changes = all; kept = record { others = group; parts = c } },
            as_synced e next q same (record {
              beside = beside.beside_on (F s k) start header first e.journal j2 stages.Rest e.covered next.steps.made next.steps.kept p q r goes
                  (subst (λ (t : Task). IsAtStage stages.Rest t q.phase) (sym rest)
                  (subst (λ (o : Phase (Dated (State s)) (Dated RangedChange)). IsAtStage stages.Rest tasks.Rest o) (sym idle) tt))
                  (omega (arith, kept_so, most, few.0, long, length-append p.kept group))
                  (subst (λ xs. e.steps.made ≤ next.steps.kept + length xs) (sym d) least)
                  (subst (λ (t : Task). Covers (F s k) t e.covered next.steps.made next.steps.kept q.waiting) (sym rest) tt);
              state = state_of e next q refl refl refl (state_on e p q all h.state);
              counted = λ r. let count = h.counted r in let w = ap length parts in let rest = ap length d in
                  omega (arith, count, w, long, rest, length-append p.kept group, length-append group later);
            }),
          ),
        )

  covers_group : (t : Task) (count covered made kept : ℕ) (waiting : List (Dated RangedChange)) → t ≡ tasks.Group count →
      Covers (F s k) t covered made kept waiting →
      Rattle.st_kept_histories.specs.Histories.IsCovered (F s k) count covered made kept waiting
  covers_group t count covered made kept waiting e h = subst (λ (x : Task). Covers (F s k) x covered made kept waiting) e h

  covers_switch : (t : Task) (count gate covered made kept : ℕ) (waiting : List (Dated RangedChange)) → t ≡ tasks.Switch count gate →
      Covers (F s k) t covered made kept waiting → Rattle.st_kept_histories.specs.Histories.IsCovered (F s k) count covered made kept waiting
  covers_switch t count gate covered made kept waiting e h = subst (λ (x : Task). Covers (F s k) x covered made kept waiting) e h

  ending_group : (e : KeptServer) (p : Past s) (count : ℕ) → In e p → e.stage ≡ stages.Ending → e.journal.task ≡ tasks.Group count → To e p
  ending_group e p count h stage task =
      let at = beside.at_opening count e.stage e.journal.task p.phase stage task h.beside.at in
      let to = driven.keeps_group (F s k) start header (sum s k) e.journal p at.0 count h.beside.reached h.beside.driven at.1 task in
      ends e p h (group_kept e.journal count) (group_of at.0) to.later to.waiting count
      (record p { phase = phases.Idle; synced = p.seen; kept = p.kept ++ group_of at.0; waiting = to.later }) h.beside.reached to.goes refl refl refl refl refl
      refl
      (covers_group e.journal.task count e.covered e.steps.made e.steps.kept p.waiting task h.beside.covers)
      (beside.group_size (F s k) start header first e.journal p at.0 count h.beside.driven.at task at.1)
      (ap (synced_at e) stage ∙ ap (ended e) task)

  ending_switch : (e : KeptServer) (p : Past s) (count gate : ℕ) → In e p → e.stage ≡ stages.Ending → e.journal.task ≡ tasks.Switch count gate → To e p
  ending_switch e p count gate h stage task =
      let at = beside.at_switching count gate e.stage e.journal.task p.phase stage task h.beside.at in
      let to = driven.switches (F s k) start header (sum s k) e.journal p count gate at.0 h.beside.driven task at.1 in
      ends e p h (switched e.journal count gate) at.0 to.later to.waiting count
      (record { phase = phases.Idle; current = not p.current; synced = p.seen; seen = p.seen; kept = p.kept ++ at.0; waiting = to.later }) h.beside.reached
      to.goes refl refl refl refl
      refl refl
      (covers_switch e.journal.task count gate e.covered e.steps.made e.steps.kept p.waiting task h.beside.covers)
      (beside.switch_size (F s k) start header first e.journal p count gate at.0 h.beside.driven.at task at.1)
      (ap (synced_at e) stage ∙ ap (ended e) task)

  -- a stage that isn't rest has a task
  no_rest : (e : KeptServer) (p : Past s) (stage : Stage) → In e p → e.stage ≡ stage → stage ≢ stages.Rest → e.journal.task ≡ tasks.Rest → ⊥
  no_rest e p stage h is n task = by stage is n
    where
      by : (o : Stage) → e.stage ≡ o → o ≢ stages.Rest → ⊥
      by stages.Rest q m = m refl
      by stages.Writing q m =
          none p.phase (subst (λ (t : Task). IsAtStage stages.Writing t p.phase) task (subst (λ (o : Stage). IsAtStage o e.journal.task p.phase) q h.beside.at))
        where
          none : (o : Phase (Dated (State s)) (Dated RangedChange)) → IsAtStage stages.Writing tasks.Rest o → ⊥
          none o z = z
      by stages.Written q m =
          none p.phase (subst (λ (t : Task). IsAtStage stages.Written t p.phase) task (subst (λ (o : Stage). IsAtStage o e.journal.task p.phase) q h.beside.at))
        where
          none : (o : Phase (Dated (State s)) (Dated RangedChange)) → IsAtStage stages.Written tasks.Rest o → ⊥
          none o z = z
      by stages.Ending q m =
          none p.phase (subst (λ (t : Task). IsAtStage stages.Ending t p.phase) task (subst (λ (o : Stage). IsAtStage o e.journal.task p.phase) q h.beside.at))
        where
          none : (o : Phase (Dated (State s)) (Dated RangedChange)) → IsAtStage stages.Ending tasks.Rest o → ⊥
          none o z = z

  writing_syncs : (e : KeptServer) (p : Past s) (t : Task) → In e p → e.stage ≡ stages.Writing → e.journal.task ≡ t → To e p
  writing_syncs e p tasks.Rest h stage task = absurd (no_rest e p stages.Writing h stage (λ q. cc) task)
  writing_syncs e p (tasks.Group count) h stage task = writing_group e p count h stage task
  writing_syncs e p (tasks.Switch count gate) h stage task = writing_snapshot e p count gate h stage task

  ending_syncs : (e : KeptServer) (p : Past s) (t : Task) → In e p → e.stage ≡ stages.Ending → e.journal.task ≡ t → To e p
  ending_syncs e p tasks.Rest h stage task = absurd (no_rest e p stages.Ending h stage (λ q. cc) task)
  ending_syncs e p (tasks.Group count) h stage task = ending_group e p count h stage task
  ending_syncs e p (tasks.Switch count gate) h stage task = ending_switch e p count gate h stage task

  syncs_by : (e : KeptServer) (p : Past s) (stage : Stage) → In e p → e.stage ≡ stage → stage ≢ stages.Rest → stage ≢ stages.Written → To e p
  syncs_by e p stages.Rest h is a b = absurd (a refl)
  syncs_by e p stages.Writing h is a b = writing_syncs e p e.journal.task h is refl
  syncs_by e p stages.Written h is a b = absurd (b refl)
  syncs_by e p stages.Ending h is a b = ending_syncs e p e.journal.task h is refl

  pub syncs_in : (e : KeptServer) (p : Past s) → In e p → e.stage ≢ stages.Rest → e.stage ≢ stages.Written → To e p
  syncs_in e p h a b = syncs_by e p e.stage h refl a b

  -- What is taken.
  pub taken_in : (e : KeptServer) (p : Past s) → In e p → In (taken e) p
  taken_in e p h = record { beside = h.beside; state = state_of e (taken e) p refl refl refl h.state; counted = h.counted }
