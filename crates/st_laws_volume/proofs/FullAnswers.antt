-- In every run the volume takes each answer `opsfull`: it goes to the newest ask of its client, and sixteen older ones are open.
use Rattle.std.proofs.Common.{◌≡◌, ◌≤◌, ◌<◌, ◌⊎◌, ℕ, suc, ◌+◌, arith, Bool, true, false, ◌&&◌, ◌==◌, List, [], ◌∷◌, ◌++◌, length, map, Option, Some, None, refl, sym, ap, ◌∙◌, subst, inl, inr, if◌then◌else◌, length-append, lt-ltb, ltb-true}
use Rattle.std.specs.Prelude.{filter, find, is_some, nat_lt, option_and_then, option_map}
use Rattle.std.proofs.lemmas.Bool.{eq-eqb, eqb-true, leb-true}
use Rattle.std.proofs.lemmas.List.{append-nil}
use Rattle.st_base.specs.declared.ids.ClientId.{ClientId}
use Rattle.st_base.specs.declared.ids.ServerId.{ServerId}
use Rattle.st_base.specs.declared.ids.Stamp.{Stamp}
use Rattle.st_messages.specs.declared.answer.AppAnswer.{AppAnswer}
use Rattle.st_messages.specs.declared.answer.AppAnswer.TheVariants as answers
use Rattle.st_messages.specs.declared.ask.Ask.{Ask}
use Rattle.st_messages.specs.declared.ask.Ask.TheVariants as asks
use Rattle.st_messages.specs.declared.event.Event.{Event}
use Rattle.st_messages.specs.declared.event.Event.TheVariants as events
use Rattle.st_messages.specs.declared.message.Body.{Body}
use Rattle.st_messages.specs.declared.message.Why.{Why}
use Rattle.st_messages.specs.declared.output.Output.{Output}
use Rattle.st_messages.specs.declared.output.Output.TheVariants as outputs
use Rattle.st_rules.specs.declared.client.ClientInput.{ClientInput}
use Rattle.st_rules.specs.declared.client.ClientInput.TheVariants as inputs
use Rattle.st_rules.specs.declared.client.Operation.{Operation}
use Rattle.st_rules.specs.declared.observation.Observation.{Observation}
use Rattle.st_rules.specs.declared.observation.Observation.TheVariants as seen
use Rattle.st_rules.specs.Client as cl
use Rattle.st_rules.specs.ClientState.{Association, ClientSession, ClientState, ClientTurn, Turn, client_turn}
use Rattle.st_rules.specs.Events as ev
use Rattle.st_rules.specs.Events.{WorldTurn}
use Rattle.st_rules.specs.History.{Traced, traced}
use Rattle.st_rules.specs.Safety.{AsksAreAnsweredOnce, Promise, Step, TheReportTellsTheLog, all_answered_once, all_followed, begins_written, step, steps}
use Rattle.st_rules.specs.World.{World, WorldClient, fresh_world, site_of}
use Rattle.st_lemmas.specs.Lists.{Has}
use Rattle.st_lemmas.proofs.Lengths.{length_map}
use Rattle.st_lemmas.proofs.Lookups.{if_true, some_is}
use Rattle.st_lemmas.proofs.Tables.{and_both, and_true, find_first, find_map, find_next, has_filter_in, has_map_in}
use Rattle.st_lemmas.proofs.Truth.{clash, eqb_self}
use Rattle.st_promises.specs.Safe.{EveryRunIsSafe, IsSafeRun}
use Rattle.st_laws_steps.specs.Lives.Lives.{NodeHolds}
use Rattle.st_laws_pages.specs.Asks.Law.{PlacesHold}
use Rattle.st_laws_pages.specs.Disks.Obligations.{FatesHold}
use Rattle.st_laws_pages.proofs.Asks.Client.{Begun, Lasting, Lasts, Neutral, each, key, stands_after_lose}
use Rattle.st_laws_pages.proofs.Asks.Law.{places_law}
use Rattle.st_laws_pages.proofs.Asks.Places.{Knows}
use Rattle.st_laws_pages.proofs.Causes.Placed.{places_at}
use Rattle.st_laws_pages.proofs.Disks.Whole.{fates_law}
use Rattle.st_laws_volume.specs.AnswerKinds.{is_opsfull}
use Rattle.st_laws_volume.specs.Asks.{AsksOf, HasAsksOf, ask_key, at_site, in_volume, operation_key}
use Rattle.st_laws_volume.specs.StepKinds.{AreTaken, StepsAreTaken}
use Rattle.st_laws_volume.specs.Logs.{InEveryRun, IsLogOf}
use Rattle.st_laws_volume.specs.Options.{OnSome}
use Rattle.st_laws_volume.specs.Seen.{cause_of, of_event, of_line}
use Rattle.st_laws_volume.specs.Witness.{Witness, before_line, of_delivery, of_lines, steps_of}
use Rattle.st_laws_volume.proofs.AnswerLines.{NoneOf, event_none, lines_none}
use Rattle.st_laws_volume.proofs.AnswerSteps.{OnlyAnswers}
use Rattle.st_laws_volume.proofs.AskEvents.{IsCounted, event_leaves}
use Rattle.st_laws_volume.proofs.Asks.{AsksHold, asks_begin, asks_kept}
use Rattle.st_laws_volume.proofs.AskSteps.{asked_once, asked_tells}
use Rattle.st_laws_volume.proofs.AsksTaken.{AllFew, event_few, fresh_few}
use Rattle.st_laws_volume.proofs.Carried.{IsGiven, given_in}
use Rattle.st_laws_volume.proofs.ChangeLines.{on_both}
use Rattle.st_laws_volume.proofs.ClientAnswers.{IsPlain, IsSilent, Keeps, KeepsLosses, Refuses, stepped}
use Rattle.st_laws_volume.proofs.ClientAnswers as walk
use Rattle.st_laws_volume.proofs.EventAnswers.{AnswersOf, GivesNone, Given, Steps, TakesAt, ByAsk, ByMessage, ByReport, ByTick, event_answers, given_by, given_in_lines, given_last, of_output}
use Rattle.st_laws_volume.proofs.Logs.{LogHolds, log_begins, log_kept}
use Rattle.st_laws_volume.proofs.Options.{on_all, on_if, on_map, on_more}
use Rattle.st_laws_volume.proofs.ReadPages.{throughout_both}
use Rattle.st_laws_volume.proofs.ReadRanges.{Written, written_is}
use Rattle.st_laws_volume.proofs.ToldSteps.{Told, is_kept, step_told}
use Rattle.st_volume.specs.declared.step.VolumeStep.{VolumeStep}
use Rattle.st_volume.specs.declared.step.VolumeStep.TheVariants as kinds
use Rattle.st_volume.specs.declared.step.Fate.{Fate}
use Rattle.st_volume.specs.declared.step.Fate.TheVariants as fates
use Rattle.st_volume.specs.Pages.{Entry, is_cause}
use Rattle.st_volume.specs.Volume as volume
use Rattle.st_volume.specs.Volume.{Pending, Volume, acts, answered, answers_so, arrived, ends, is_ask, is_of_client, new_ask, notice, noticing, open_of, with_changed, with_fate}

-- a line that tells of an entry
abbrev is_dull : VolumeStep → Bool
is_dull (kinds.Joined i c what) = true
is_dull (kinds.Hardened i) = true
is_dull (kinds.Dropped i cause) = true
is_dull it = false

only_full : OnlyAnswers is_opsfull
only_full (kinds.Answered c op answer) q = cc q
only_full (kinds.Asked c ask) q = refl
only_full (kinds.TakesEffect c op) q = refl
only_full (kinds.Joined i c what) q = refl
only_full (kinds.Hardened i) q = refl
only_full (kinds.Dropped i cause) q = refl
only_full (kinds.Crashed c) q = refl
only_full (kinds.Restarted s) q = refl
only_full (kinds.WriteFailed c number i) q = refl
only_full (kinds.ReadFailed c s number) q = refl

-- What a client answers: `opsfull` only first, to the ask that comes, and only if sixteen operations were pending.
abbrev is_full_answer : AppAnswer → Bool
is_full_answer answers.OpsFull = true
is_full_answer a = false

abbrev NoneFull : List Given → Type 0
NoneFull [] = Unit {0}
NoneFull (g ∷ gs) = (is_full_answer g.answer ≡ false) × NoneFull gs

none_last : (gs : List Given) (g : Given) → is_full_answer g.answer ≡ false → NoneFull gs → NoneFull (gs ++ g ∷ [])
none_last [] g e h = (e, tt)
none_last (x ∷ gs) g e h = (h.0, none_last gs g e h.1)

abbrev full_given : ClientId → ℕ → Given
full_given c op = record { client = c; op = op; answer = answers.OpsFull }

data FullFirst (c : ClientId) (input : ClientInput) (count : ℕ) : List Given → Type 0 where
  IsFree : (gs : List Given) → NoneFull gs → FullFirst c input count gs
  IsFirst : (op : ℕ) (ask : Ask) (more : List Given) → input ≡ inputs.App op ask → 16 ≤ count → NoneFull more →
      FullFirst c input count (full_given c op ∷ more)

first_last : (c : ClientId) (input : ClientInput) (count : ℕ) (gs : List Given) (g : Given) → is_full_answer g.answer ≡ false → FullFirst c input count gs →
    FullFirst c input count (gs ++ g ∷ [])
first_last c input count _ g e (IsFree gs h) = IsFree (gs ++ g ∷ []) (none_last gs g e h)
first_last c input count _ g e (IsFirst op ask more i l h) = IsFirst op ask (more ++ g ∷ []) i l (none_last more g e h)

plain_free : (a : AppAnswer) → IsPlain a → is_full_answer a ≡ false
plain_free answers.OpsFull p = absurd p
plain_free a p = refl

refused_free : (t : Turn) (file : Option ℕ) (asked : Body) (o : Operation) (w : Why) (a b : ℕ) (answer : AppAnswer) → Refuses t file asked o w a b answer →
    is_full_answer answer ≡ false
refused_free t file asked o _ a b _ (walk.HasNoFile _ _ ino e p) = refl
refused_free t file asked o _ a b _ (walk.HasTooManyLocks _ _ ino e p) = refl
refused_free t file asked o _ a b _ (walk.HasNoSpace _ _ ino p e q z) = refl
refused_free t file asked o _ a b _ (walk.IsNoHolder _ _ e p) = refl

silent_none : (c : ClientId) (o : Output) → IsSilent o → of_output c o ≡ []
silent_none c (outputs.Answer op a) s = absurd s
silent_none c (outputs.Send m) s = refl
silent_none c (outputs.Submit number at what) s = refl
silent_none c (outputs.Note n) s = refl

-- Losses answer each operation that they end.
module _ (n : ℕ) (c : ClientId) where
  abbrev Free : ServerId → Type 0
  Free s = Unit {0}

  abbrev Counted : ℕ → List Operation → List Output → Type 0
  Counted most ops out = length ops + length (given_by c out) ≡ most

  neutral_none : (o : Output) → Neutral c o → of_output c o ≡ []
  neutral_none (outputs.Answer op a) h = absurd h
  neutral_none (outputs.Send m) h = refl
  neutral_none (outputs.Submit number at what) h = refl
  neutral_none (outputs.Note x) h = refl

  more_given : (out : List Output) (o : Output) → length (given_by c (out ++ o ∷ [])) ≡ length (given_by c out) + length (of_output c o)
  more_given out o = ap length (given_last c out o) ∙ length-append (given_by c out) (of_output c o)

  silent_counted : (most : ℕ) (ops : List Operation) (out : List Output) (o : Output) → of_output c o ≡ [] → Counted most ops out →
      Counted most ops (out ++ o ∷ [])
  silent_counted most ops out o e h = let x = more_given out o in let y = ap (λ (gs : List Given). length gs) e in omega (arith, x, y, h)

  answer_counted : (most : ℕ) (xs ys : List Operation) (out : List Output) (o : Operation) (a : AppAnswer) → Counted most (xs ++ o ∷ ys) out →
      Counted most (xs ++ ys) (out ++ outputs.Answer o.op a ∷ [])
  answer_counted most xs ys out o a h =
      let x = more_given out (outputs.Answer o.op a) in
      let y = length-append xs (o ∷ ys) in
      let z = length-append xs ys in
      omega (arith, x, y, z, h)

  counted_lasts : (most : ℕ) → Lasts n Free c (Counted most)
  counted_lasts most =
      record {
        says = λ ops out o m h. silent_counted most ops out o (neutral_none o m) h;
        submits = λ ops out s number at what u o h. silent_counted most ops out (outputs.Submit number at what) refl h;
        answered = λ xs ys out o a e h. answer_counted most xs ys out o a h;
        reads = λ xs ys out o bytes u h. answer_counted most xs ys out o (answers.Read bytes) h;
        changes =
            λ xs ys out o x m u h. answer_counted most xs ys (out ++ outputs.Note x ∷ []) o answers.Written
            (silent_counted most (xs ++ o ∷ ys) out (outputs.Note x) refl h);
        stages =
            λ xs ys out e h.
            let p = length_map key xs in let q = length_map key ys in let r = ap (λ (l : List (ℕ × Ask)). length l) e in omega (arith, p, q, r, h);
      }

  losses_counted : (s : ClientState) (now : Stamp) → s.id ≡ c → ((a : Association) → Has a s.associations → Knows n a.server a.store.extents) →
      Counted (length s.operations) (cl.losses (client_turn s []) now).state.operations (cl.losses (client_turn s []) now).out
  unfolding cl.losses
  losses_counted s now id knows =
      (each n Free c s.config (Counted (length s.operations)) (counted_lasts (length s.operations)) (Lasting s.config now Free) (Begun Free) (cl.lose now)
      (λ u w. stands_after_lose n Free c s.config (Counted (length s.operations)) (counted_lasts (length s.operations)) now u w) (client_turn s [])
      (record { id = id; config = refl; done = omega arith; own = knows; cond = λ a i l. tt })).done

  no_length : {A : Type 0} (xs : List A) → length xs ≤ 0 → xs ≡ []
  no_length [] l = refl
  no_length (x ∷ xs) l = absurd (omega (arith, l))

  -- the whole step
  module _ (s : ClientState) (now : Stamp) (input : ClientInput) (id : s.id ≡ c)
      (knows : (a : Association) → Has a s.associations → Knows n a.server a.store.extents) (few : length s.operations ≤ 16) where
    abbrev lost : ClientTurn
    lost = cl.losses (client_turn s []) now

    abbrev First : List Output → Type 0
    First out = FullFirst c input (length s.operations) (given_by c out)

    one_first : (out : List Output) (op : ℕ) (a : AppAnswer) → is_full_answer a ≡ false → First out → First (out ++ outputs.Answer op a ∷ [])
    one_first out op a e h =
        subst (FullFirst c input (length s.operations)) (sym (given_last c out (outputs.Answer op a)))
        (first_last c input (length s.operations) (given_by c out) (record { client = c; op = op; answer = a }) e h)

    at_first : (op : ℕ) (ask : Ask) → input ≡ inputs.App op ask → cl.is_full lost.state ≡ true → First (lost.out ++ outputs.Answer op answers.OpsFull ∷ [])
    at_first op ask i f =
        let l = losses_counted s now id knows in
        let m = leb-true 16 (length lost.state.operations) f in
        let none : given_by c lost.out ≡ [] = no_length (given_by c lost.out) (omega (arith, l, m, few)) in
        subst (FullFirst c input (length s.operations))
        (sym (given_last c lost.out (outputs.Answer op answers.OpsFull) ∙ ap (λ gs. gs ++ full_given c op ∷ []) none))
        (IsFirst op ask [] i (omega (arith, l, m)) tt)

    abbrev Any : ℕ → Ask → Type 0
    Any op ask = Unit {0}

    abbrev All : Ask → Type 0
    All ask = Unit {0}

    abbrev Some_epoch : ServerId → ℕ → Type 0
    Some_epoch v e = Unit {0}

    abbrev There : Association → Type 0
    There a = Unit {0}

    abbrev Free_number : ℕ → Type 0
    Free_number op = Unit {0}

    silent_first : (out : List Output) (o : Output) → IsSilent o → First out → First (out ++ o ∷ [])
    silent_first out o e h =
        subst (FullFirst c input (length s.operations))
        (sym (given_last c out o ∙ (ap (λ gs. given_by c out ++ gs) (silent_none c o e) ∙ append-nil (given_by c out)))) h

    losses : KeepsLosses Any Free_number All (λ a e. tt) Some_epoch There First now
    losses =
        record {
          silent = silent_first;
          plain = λ out op a e h. one_first out op a (plain_free a e) h;
          uncertain = λ out v o e a b d f h. one_first out o.op (answers.Uncertain e 0) refl h;
          quiesced = λ out o e u h. one_first out o.op answers.Quiesced refl h;
        }

    keeps : Keeps Any Free_number All (λ a e. tt) Some_epoch There First now input lost
    keeps =
        record {
          comes = λ op ask i. tt;
          silent = silent_first;
          plain = λ out op a e h. one_first out op a (plain_free a e) h;
          quiesced = λ out o e u n h. one_first out o.op answers.Quiesced refl h;
          newer = λ out v o e m a b d f g l h. one_first out o.op (answers.Uncertain e m) refl h;
          full = λ op ask i f h. at_first op ask i f;
          unknown = λ op ask i f h. one_first lost.out op answers.NoFile refl h;
          refused = λ out t v q m o w a b answer i z r e y u h. one_first out o.op answer (refused_free t _ _ o w a b answer u) h;
          failed = λ out t number x o i z y w u h. one_first out o.op (answers.DiskFault x.number) refl h;
        }

    any_tells : (i : ClientInput) → walk.Tells Any Some_epoch i
    any_tells (inputs.App op ask) = tt
    any_tells (inputs.Control m) = λ v e. tt
    any_tells inputs.Tick = tt
    any_tells (inputs.Done number r) = tt

    any_session : (a : Association) → walk.SessionIn Some_epoch a.server a.session
    any_session a = go a.session
      where
        go : (o : Option ClientSession) → walk.SessionIn Some_epoch a.server o
        go None = tt
        go (Some v) = tt

    full_first : FullFirst c input (length s.operations) (given_by c (cl.client_step s now input).out)
    full_first =
        (stepped Any Free_number All (λ a e. tt) Some_epoch There First now s input losses keeps (λ a. tt) (λ a i. (any_session a, tt))
        (λ o i. (tt, record { sent = λ e. tt; unsent = λ e. tt })) (IsFree [] tt)
        (any_tells input)).kept

-- Lines without such an answer.
not_full : (c : ClientId) (op : ℕ) (a : AppAnswer) → is_full_answer a ≡ false → is_opsfull (kinds.Answered c op a) ≡ false
not_full c op answers.OpsFull e = cc e
not_full c op a e = refl

none_full : (gs : List Given) → NoneFull gs → NoneOf is_opsfull gs
none_full [] h = tt
none_full (g ∷ gs) h = (not_full g.client g.op g.answer h.0, none_full gs h.1)

-- The asks after one more has come.
module _ (v : Volume) (c : ClientId) (ask : Ask) (counted : IsCounted (in_volume v c)) (many : length (in_volume v c).pending ≡ 16) where
  abbrev op : ℕ
  op = (in_volume v c).count + 1

  abbrev came : Volume
  came = notice (arrived v c ask)

  older : (b : Pending) → Has b v.pending → is_ask c op b ≡ false
  older b i = go (is_ask c op b) refl
    where
      go : (t : Bool) → is_ask c op b ≡ t → t ≡ false
      go false e = refl
      go true e =
          let z = and_true (is_of_client c b) (b.op == op) e in
          let l = counted.below (ask_key b) (has_map_in ask_key (open_of v c) b (has_filter_in (is_of_client c) v.pending b i z.0)) in
          let q = eqb-true b.op op z.1 in
          absurd (omega (arith, l, q))

  found_last : (xs : List Pending) (y : Pending) → ((x : Pending) → Has x xs → is_ask c op x ≡ false) → is_ask c op y ≡ true →
      find (is_ask c op) (xs ++ y ∷ []) ≡ Some y
  found_last [] y h e = find_first (is_ask c op) y [] e
  found_last (x ∷ xs) y h e = find_next (is_ask c op) x (xs ++ y ∷ []) (h x (inl refl)) ∙ found_last xs y (λ z i. h z (inr i)) e

  abbrev newest : Pending
  newest = noticing (arrived v c ask) (new_ask v c ask)

  found : find (is_ask c op) came.pending ≡ Some newest
  found =
      find_map (is_ask c op) (noticing (arrived v c ask)) (λ x. refl) (v.pending ++ new_ask v c ask ∷ [])
      ∙ ap (option_map (noticing (arrived v c ask)))
      (found_last v.pending (new_ask v c ask) older (and_both (c.0 == c.0) (op == op) (eqb_self c.0) (eqb_self op)))

  counted_keys : (bs : List Pending) → length (filter (λ b. nat_lt b.op op) bs) ≡ length (filter (λ k. nat_lt k.0 op) (map ask_key bs))
  counted_keys [] = refl
  counted_keys (b ∷ bs) = go (nat_lt b.op op) (counted_keys bs)
    where
      go : (t : Bool) → length (filter (λ x. nat_lt x.op op) bs) ≡ length (filter (λ k. nat_lt k.0 op) (map ask_key bs)) →
          length (if t then b ∷ filter (λ x. nat_lt x.op op) bs else filter (λ x. nat_lt x.op op) bs)
          ≡ length (if t then ask_key b ∷ filter (λ k. nat_lt k.0 op) (map ask_key bs) else filter (λ k. nat_lt k.0 op) (map ask_key bs))
      go true e = ap suc e
      go false e = e

  not_below : nat_lt op op ≡ false
  not_below = go (nat_lt op op) refl
    where
      go : (t : Bool) → nat_lt op op ≡ t → t ≡ false
      go false e = refl
      go true e = let l = ltb-true op op e in absurd (omega (arith, l))

  all_below : (ks : List (ℕ × Ask)) → ((k : ℕ × Ask) → Has k ks → k.0 < op) → length (filter (λ k. nat_lt k.0 op) (ks ++ (op, ask) ∷ [])) ≡ length ks
  all_below [] h = ap (λ t. length {A = ℕ × Ask} (if t then (op, ask) ∷ [] else [])) not_below
  all_below (k ∷ ks) h =
      ap length
      (if_true (nat_lt k.0 op) (k ∷ filter (λ k. nat_lt k.0 op) (ks ++ (op, ask) ∷ [])) (filter (λ k. nat_lt k.0 op) (ks ++ (op, ask) ∷ []))
      (lt-ltb k.0 op (h k (inl refl))))
      ∙ ap suc (all_below ks (λ j i. h j (inr i)))

  sixteen : (keys : map ask_key (open_of came c) ≡ (in_volume v c).pending ++ (op, ask) ∷ []) → length (filter (λ b. nat_lt b.op op) (open_of came c)) ≡ 16
  sixteen keys =
      counted_keys (open_of came c)
      ∙ (ap (λ ks. length (filter (λ (k : ℕ × Ask). nat_lt k.0 op) ks)) keys
      ∙ (all_below (in_volume v c).pending (λ k i. let l = counted.below k i in omega (arith, l)) ∙ many))

  full_taken : (u : Volume) → Told u → u.pending ≡ came.pending → map ask_key (open_of came c) ≡ (in_volume v c).pending ++ (op, ask) ∷ [] →
      is_some (volume.step u (kinds.Answered c op answers.OpsFull)) ≡ true
  full_taken u told same keys =
      ap is_some (if_true (u.lines == length u.log) (acts u (kinds.Answered c op answers.OpsFull)) None (eq-eqb u.lines (length u.log) told))
      ∙ (ap (λ (o : Option Pending). is_some (option_and_then (answered u answers.OpsFull) o)) (ap (find (is_ask c op)) same ∙ found)
      ∙ ap is_some
      (if_true (answers_so u newest answers.OpsFull None) (Some (volume.closed newest (volume.after_answer u newest answers.OpsFull))) None
      (eq-eqb (length (filter (λ b. nat_lt b.op op) (open_of u c))) 16
      (ap (λ bs. length (filter (λ (b : Pending). nat_lt b.op op) (filter (is_of_client c) bs))) same ∙ sixteen keys))))

  -- The lines, of which the first answer is that one.
  module _ (w : World) (keys : map ask_key (open_of came c) ≡ (in_volume v c).pending ++ (op, ask) ∷ []) where
    record Unanswered (u : Volume) : Type 0 where
      told : Told u
      same : u.pending ≡ came.pending

    fate_same : (u : Volume) (i : ℕ) (test : Entry → Bool) (fate : Fate) → OnSome (λ z. z.pending ≡ u.pending) (with_fate u i test fate)
    fate_same u i test fate =
        on_map (λ z. z.pending ≡ u.pending) (with_changed u i) (option_and_then (ends test fate) (volume.numbered u.log i))
        (on_all (λ e. (with_changed u i e).pending ≡ u.pending) (λ e. refl) (option_and_then (ends test fate) (volume.numbered u.log i)))

    step_same : (it : VolumeStep) → is_dull it ≡ true → (u : Volume) → OnSome (λ z. z.pending ≡ u.pending) (volume.step u it)
    step_same (kinds.Joined i d what) q u = on_if (λ z. z.pending ≡ u.pending) _ (Some (record u { lines = i })) refl
    step_same (kinds.Hardened i) q u = on_if (λ z. z.pending ≡ u.pending) (u.lines == length u.log) _ (fate_same u i (λ e. true) fates.Hard)
    step_same (kinds.Dropped i cause) q u = on_if (λ z. z.pending ≡ u.pending) (u.lines == length u.log) _ (fate_same u i (is_cause cause) fates.Dropped)
    step_same it q u = cc q

    dull_kept : (it : VolumeStep) → is_dull it ≡ true → is_kept it ≡ true
    dull_kept (kinds.Joined i d what) q = refl
    dull_kept (kinds.Hardened i) q = refl
    dull_kept (kinds.Dropped i cause) q = refl
    dull_kept it q = cc q

    goes_on : (it : VolumeStep) → is_dull it ≡ true → (u : Volume) → Unanswered u → OnSome Unanswered (volume.step u it)
    goes_on it q u h =
        on_more (λ z. Told z × (z.pending ≡ u.pending)) Unanswered (λ z k. record { told = k.0; same = k.1 ∙ h.same }) (volume.step u it)
        (on_both Told (λ z. z.pending ≡ u.pending) (volume.step u it) (step_told u it (dull_kept it q) (inl h.told)) (step_same it q u))

    abbrev head : List Given → Option Given
    head [] = None
    head (g ∷ gs) = Some g

    abbrev tail : List Given → List Given
    tail [] = []
    tail (g ∷ gs) = gs

    wrong : (y : Observation) (ys : List Observation) (d : ClientId) (more : List Given) → begins_written d (y ∷ ys) ≡ true →
        given_in_lines (y ∷ ys) ≡ full_given c op ∷ more → ⊥
    wrong y ys d more b e = go (written_is d y b)
      where
        go : Written y → ⊥
        go (x, o, q) =
            clash (ap (λ (g : Given). is_full_answer g.answer) (some_is (ap head (sym (ap (λ z. given_in_lines (z ∷ ys)) q) ∙ e)))) refl

    first_lines : (os : List Observation) (u : Volume) (more : List Given) → Unanswered u → given_in_lines os ≡ full_given c op ∷ more → NoneFull more →
        all_followed os ≡ true → AreTaken is_opsfull (of_lines w os) u
    unfolding of_lines before_line of_line AreTaken all_followed
    first_lines [] u more h e n b = cc e
    first_lines (seen.Answered d o a ∷ os) u more h e n b = (
      (λ q. ap (λ (g : Given). is_some (volume.step u (kinds.Answered g.client g.op g.answer))) (some_is (ap head e)) ∙ full_taken u h.told h.same keys),
      on_all (AreTaken is_opsfull (of_lines w os))
          (λ z. lines_none is_opsfull only_full w os z (none_full (given_in_lines os) (subst NoneFull (sym (ap tail e)) n)))
          (volume.step u (kinds.Answered d o a)),
    )
    first_lines (seen.Wrote i d f p bytes ∷ []) u more h e n b = cc e
    first_lines (seen.Wrote i d f p bytes ∷ (y ∷ os)) u more h e n b =
        absurd (wrong y os d more (and_true (begins_written d (y ∷ os)) (all_followed (y ∷ os)) b).0 e)
    first_lines (seen.Patched i d f p at bytes ∷ []) u more h e n b = cc e
    first_lines (seen.Patched i d f p at bytes ∷ (y ∷ os)) u more h e n b =
        absurd (wrong y os d more (and_true (begins_written d (y ∷ os)) (all_followed (y ∷ os)) b).0 e)
    first_lines (seen.CutAt i f p ∷ os) u more h e n b = (
      (λ q. cc q),
      on_more Unanswered (AreTaken is_opsfull (of_lines w os)) (λ z k. first_lines os z more k e n b) (volume.step u (kinds.Joined i None (asks.Cut f p)))
          (goes_on (kinds.Joined i None (asks.Cut f p)) refl u h),
    )
    first_lines (seen.Hardened i ∷ os) u more h e n b = (
      (λ q. cc q),
      on_more Unanswered (AreTaken is_opsfull (of_lines w os)) (λ z k. first_lines os z more k e n b) (volume.step u (kinds.Hardened i))
          (goes_on (kinds.Hardened i) refl u h),
    )
    first_lines (seen.Dropped i cause ∷ os) u more h e n b = (
      (λ q. cc q),
      on_more Unanswered (AreTaken is_opsfull (of_lines w os)) (λ z k. first_lines os z more k e n b) (volume.step u (kinds.Dropped i (cause_of w cause)))
          (goes_on (kinds.Dropped i (cause_of w cause)) refl u h),
    )
    first_lines (seen.Sent k m ∷ os) u more h e n b = first_lines os u more h e n b
    first_lines (seen.Submitted k d number what ∷ os) u more h e n b = first_lines os u more h e n b
    first_lines (seen.Leased d s end ∷ os) u more h e n b = first_lines os u more h e n b
    first_lines (seen.Lost d s life ∷ os) u more h e n b = first_lines os u more h e n b
    first_lines (seen.Suspected s d start ∷ os) u more h e n b = first_lines os u more h e n b
    first_lines (seen.Stolen s d life ∷ os) u more h e n b = first_lines os u more h e n b

-- All steps of an event.
module _ (t : World) (it : Witness) (v : Volume) (sc : WorldTurn) where
  abbrev Taken : Event → Type 0
  Taken e = AreTaken is_opsfull (of_event t e ++ (of_delivery it.behind v t e ++ of_lines t sc.seen)) v

  free : (e : Event) → NoneFull (given_in_lines sc.seen) → Taken e
  free e n = event_none is_opsfull only_full t it v sc.seen e (none_full (given_in_lines sc.seen) n)

  module _ (log : IsLogOf t.log v) (agree : HasAsksOf t v) (counted : (c : ClientId) → IsCounted (at_site (site_of t c))) (few : AllFew t)
      (followed : all_followed sc.seen ≡ true) where
    -- an ask of a client with sixteen open ones
    asked_full : (c : ClientId) (site : WorldClient) (ask : Ask) (more : List Given) → site_of t c ≡ Some site → 16 ≤ length site.node.state.operations →
        given_in_lines sc.seen ≡ full_given c (site.asks + 1) ∷ more → NoneFull more → Taken (events.App c ask)
    unfolding of_event AreTaken
    asked_full c site ask more at l e n = (
      (λ q. cc q),
      on_if (AreTaken is_opsfull (of_lines t sc.seen)) (v.lines == length v.log) (acts v (kinds.Asked c ask))
          (on_if (AreTaken is_opsfull (of_lines t sc.seen)) _ (Some (notice (arrived v c ask)))
          (first_lines v c ask mine many t keys sc.seen (notice (arrived v c ask)) more (record { told = log.lines; same = refl })
          (e ∙ ap (λ (m : ℕ). full_given c (m + 1) ∷ more) (sym (ap (λ (a : AsksOf). a.count) same))) n followed)),
    )
      where
        same : in_volume v c ≡ at_site (Some site)
        same = agree c ∙ ap at_site at

        mine : IsCounted (in_volume v c)
        mine = subst IsCounted (sym (agree c)) (counted c)

        many : length (in_volume v c).pending ≡ 16
        many =
            let x = ap (λ (a : AsksOf). length a.pending) same in
            let y = length_map operation_key site.node.state.operations in
            let z = few c site at in
            omega (arith, x, y, z, l)

        keys : map ask_key (open_of (notice (arrived v c ask)) c) ≡ (in_volume v c).pending ++ ((in_volume v c).count + 1, ask) ∷ []
        keys =
            ap (λ (a : AsksOf). a.pending)
            (asked_tells c c ask v ∙ if_true (c.0 == c.0) (asked_once ask (in_volume v c)) (in_volume v c) (eq-eqb c.0 c.0 refl))

    abbrev op_of : ClientInput → ℕ
    op_of (inputs.App op ask) = op
    op_of i = 0

    first_full : (e : Event) (c : ClientId) (site : WorldClient) (input : ClientInput) (gs : List Given) → site_of t c ≡ Some site → TakesAt t e c site input →
        given_in_lines sc.seen ≡ gs → FullFirst c input (length site.node.state.operations) gs → Taken e
    first_full e c site input _ at k q (IsFree gs n) = free e (subst NoneFull (sym q) n)
    first_full e c site input _ at k q (IsFirst op ask more i l n) = by input k i
      where
        by : (j : ClientInput) → TakesAt t e c site j → j ≡ inputs.App op ask → Taken e
        by _ (ByTick f) j = cc j
        by _ (ByMessage x m f y z) j = cc j
        by _ (ByReport x ok y r f a b d g) j = cc j
        by _ (ByAsk a f) j =
            subst Taken (sym f)
            (asked_full c site a more at l (q ∙ ap (λ (m : ℕ). full_given c m ∷ more) (sym (ap op_of j))) n)

    event_full : (n : ℕ) → ((c : ClientId) (site : WorldClient) → site_of t c ≡ Some site → NodeHolds t.config t.clocks t.ended c site.node) →
        ((c : ClientId) (site : WorldClient) → site_of t c ≡ Some site → (a : Association) → Has a site.node.state.associations →
        Knows n a.server a.store.extents) →
        (e : Event) → AnswersOf t e sc → Taken e
    event_full n holds knows e (GivesNone q) = free e (subst NoneFull (sym q) tt)
    event_full n holds knows e (Steps r) =
        first_full e r.client r.site r.input (given_by r.client (cl.client_step r.site.node.state r.now r.input).out) r.at r.takes r.gives
        (full_first n r.client r.site.node.state r.now r.input (holds r.client r.site r.at).id (knows r.client r.site r.at) (few r.client r.site r.at))

-- In every run.
FullToo : List Step → Step → Witness → Type 0
FullToo past x it = OnSome (λ v. AreTaken is_opsfull (steps_of it v x) v) it.volume

record FullHolds (past : List Step) (t : Traced) (it : Witness) : Type 0 where
  asks : AsksHold past t it
  log : LogHolds past t it
  few : AllFew t.world

abbrev Known : Promise
Known past x = AsksAreAnsweredOnce past x × (TheReportTellsTheLog past x × (FatesHold x.after.world × PlacesHold x.after.world))

full_on : IsGiven Known FullHolds FullToo
unfolding FullToo
full_on past t e sc it f g h =
    let x : Step = step t e sc in (
      on_more (λ v. IsLogOf t.world.log v × HasAsksOf t.world v) (λ v. AreTaken is_opsfull (steps_of it v x) v)
          (λ v k. event_full t.world it v sc k.0 k.1 h.asks.counted h.few (and_true (all_answered_once past x [] x.seen) (all_followed x.seen) g.0).1
          (length t.world.servers) h.asks.fates.lives.lives.sites (λ c site at. (places_at t.world h.asks.places).known c site at) e
          (event_answers t.world e sc f))
          it.volume (on_both (IsLogOf t.world.log) (HasAsksOf t.world) it.volume h.log h.asks.agree),
      record {
        asks = asks_kept past t e sc it f g.1.1 h.asks;
        log = log_kept past t e sc it f g.1.0 h.log;
        few =
            event_few t.world e sc f
            (event_leaves t.world e h.asks.rests h.asks.fates.lives.lives.sites (places_at t.world h.asks.places) h.asks.counted sc f)
            h.asks.fates.lives.lives.sites (places_at t.world h.asks.places) h.few;
      },
    )

pub opsfull_answers_are_taken : EveryRunIsSafe → InEveryRun (StepsAreTaken is_opsfull)
unfolding FullToo
opsfull_answers_are_taken safe k clients servers disks blocks form es head events =
    let t : Traced = traced (fresh_world k clients servers disks blocks form) in
    let kept : IsSafeRun (fresh_world k clients servers disks blocks form) es = safe k clients servers disks blocks form es head events in
    given_in Known FullHolds FullToo full_on es t
    (record {
      asks = asks_begin k clients servers disks blocks form;
      log = log_begins k clients servers disks blocks form;
      few = fresh_few k clients servers disks blocks form;
    })
    (throughout_both AsksAreAnsweredOnce (λ past x. TheReportTellsTheLog past x × (FatesHold x.after.world × PlacesHold x.after.world)) [] (steps es t)
    kept.once
    (throughout_both TheReportTellsTheLog (λ past x. FatesHold x.after.world × PlacesHold x.after.world) [] (steps es t) kept.told
    (throughout_both (λ past x. FatesHold x.after.world) (λ past x. PlacesHold x.after.world) [] (steps es t)
    (fates_law k clients servers disks blocks form es) (places_law k clients servers disks blocks form es head))))
