-- In an event room stays wanted for a page, unless a line of the event tells a cut of it.
use Rattle.st_lemmas.proofs.Words
use Words.{◌≡◌, ◌⊎◌, ℕ, zero, suc, true, List, [], ◌∷◌, ◌++◌, map, Option, Some, None, refl, sym, ap, ◌∙◌, subst, inl, inr, append_assoc, append-nil, map-append, slice_get, set, list_any}
use Words.{Ask, ClientId, Fate, FileId, LogEntry, Observation, PageNo}
use Words.asks
use Words.events
use Words.seen
use Words.FlatLog as log
use Words.Lines as lines
use Words.Lists.{Has}
use Words.Lookups.{or_cases, some_is}
use Words.World.{World}
use Rattle.st_rules.specs.Safety.{Step}
use Rattle.st_laws_volume.specs.Logs.{AreSame, IsLogOf, ask_of}
use Rattle.st_laws_volume.specs.Options.{OnSome}
use Rattle.st_laws_volume.specs.Seen.{of_event}
use Rattle.st_laws_volume.specs.Witness.{Witness, of_delivery, of_lines, steps_of}
use Rattle.st_laws_volume.proofs.RoomClaims.{Goes, OpenWanted, Place, asked_first, cuts_place, run_goes, same_rest, whats}
use Rattle.st_volume.specs.declared.step.VolumeStep.{VolumeStep}
use Rattle.st_volume.specs.Pages.{Entry, place_of, touches}
use Rattle.st_volume.specs.Volume.{Volume, run}

-- What the entries of the world's log are, as asks, and what the lines of an event add.
abbrev pub ask_in : LogEntry → Ask
ask_in o = ask_of o.of.file o.of.page o.change

abbrev pub asks_in : List LogEntry → List Ask
asks_in os = map ask_in os

abbrev told_ask : Observation → List Ask
told_ask (seen.Wrote i c f p bytes) = asks.Write f p bytes ∷ []
told_ask (seen.Patched i c f p at bytes) = asks.Patch f p at bytes ∷ []
told_ask (seen.CutAt i f p) = asks.Cut f p ∷ []
told_ask o = []

abbrev told_asks : List Observation → List Ask
told_asks [] = []
told_asks (o ∷ os) = told_ask o ++ told_asks os

set_asks : (es : List LogEntry) (n : ℕ) (e : LogEntry) (fate : Fate) → slice_get es n ≡ Some e →
    asks_in (set es n (record e { fate = fate })) ≡ asks_in es
set_asks [] n e fate q = refl
set_asks (x ∷ es) zero e fate q = ap (λ w. w ∷ asks_in es) (ap ask_in (sym (some_is q)))
set_asks (x ∷ es) (suc n) e fate q = ap (λ ws. ask_in x ∷ ws) (set_asks es n e fate q)

fated_asks : (es : List LogEntry) (i : ℕ) (fate : Fate) →
    asks_in (lines.fated es i fate) ≡ asks_in es
fated_asks es zero fate = refl
fated_asks es (suc n) fate = go (slice_get es n) refl
  where
    go : (o : Option LogEntry) → slice_get es n ≡ o →
        asks_in (lines.with_fate (suc n) fate o es) ≡ asks_in es
    go None q = refl
    go (Some e) q = set_asks es n e fate q

line_asks : (w : World) (es : List LogEntry) (o : Observation) →
    asks_in (lines.log_behind w es o) ≡ asks_in es ++ told_ask o
unfolding lines.log_behind log.accept log.patch log.cut
line_asks w es (seen.Wrote i c f p bytes) = map-append ask_in es _
line_asks w es (seen.Patched i c f p at bytes) = map-append ask_in es _
line_asks w es (seen.CutAt i f p) = map-append ask_in es _
line_asks w es (seen.Hardened i) = fated_asks es i _ ∙ sym (append-nil (asks_in es))
line_asks w es (seen.Dropped i cause) = fated_asks es i _ ∙ sym (append-nil (asks_in es))
line_asks w es (seen.Answered c op answer) = sym (append-nil (asks_in es))
line_asks w es (seen.Sent k m) = sym (append-nil (asks_in es))
line_asks w es (seen.Submitted k c number what) = sym (append-nil (asks_in es))
line_asks w es (seen.Leased c s end) = sym (append-nil (asks_in es))
line_asks w es (seen.Lost c s life) = sym (append-nil (asks_in es))
line_asks w es (seen.Suspected s c start) = sym (append-nil (asks_in es))
line_asks w es (seen.Stolen s c life) = sym (append-nil (asks_in es))

all_asks : (w : World) (es : List LogEntry) (os : List Observation) →
    asks_in (lines.log_told w es os) ≡ asks_in es ++ told_asks os
unfolding lines.log_told
all_asks w es [] = sym (append-nil (asks_in es))
all_asks w es (o ∷ os) =
    all_asks w (lines.log_behind w es o) os
    ∙ (ap (λ xs. xs ++ told_asks os) (line_asks w es o) ∙
    append_assoc (asks_in es) (told_ask o) (told_asks os))

whats_are : (os : List LogEntry) (es : List Entry) → AreSame os es → whats es ≡ asks_in os
whats_are [] [] h = refl
whats_are [] (e ∷ es) h = absurd h
whats_are (o ∷ os) [] h = absurd h
whats_are (o ∷ os) (e ∷ es) h = ap (λ w. w ∷ whats es) h.0.what ∙
    ap (λ ws. ask_in o ∷ ws) (whats_are os es h.1)

-- A line tells a cut of this page.
pub record CutSeen (x : Place) (os : List Observation) : Type 0 where
  pub index : ℕ
  pub file : FileId
  pub page : PageNo
  pub among : Has (seen.CutAt index file page) os
  pub cuts : touches x (asks.Cut file page) ≡ true

cut_seen : (x : Place) (os : List Observation) → list_any (cuts_place x) (told_asks os) ≡ true →
    CutSeen x os
cut_seen x [] q = cc q
cut_seen x (o ∷ os) q = go o refl q (cut_seen x os)
  where
    later : CutSeen x os → CutSeen x (o ∷ os)
    later z =
        record { index = z.index; file = z.file; page = z.page; among = inr z.among; cuts = z.cuts }

    -- a line of another kind
    past : list_any (cuts_place x) (told_asks os) ≡ true →
        (list_any (cuts_place x) (told_asks os) ≡ true → CutSeen x os) → CutSeen x (o ∷ os)
    past q k = later (k q)

    cut : (i : ℕ) (f : FileId) (p : PageNo) → o ≡ seen.CutAt i f p →
        (touches x (asks.Cut f p) ≡ true) ⊎ (list_any (cuts_place x) (told_asks os) ≡ true) →
        (list_any (cuts_place x) (told_asks os) ≡ true → CutSeen x os) → CutSeen x (o ∷ os)
    cut i f p e (inl z) k = record { index = i; file = f; page = p; among = inl (sym e); cuts = z }
    cut i f p e (inr z) k = later (k z)

    go : (y : Observation) → o ≡ y → list_any (cuts_place x) (told_ask y ++ told_asks os) ≡ true →
        (list_any (cuts_place x) (told_asks os) ≡ true → CutSeen x os) → CutSeen x (o ∷ os)
    go (seen.CutAt i f p) e q k = cut i f p e
        (or_cases (touches x (asks.Cut f p)) (list_any (cuts_place x) (told_asks os)) q) k
    go (seen.Wrote i c f p bytes) e q k = past q k
    go (seen.Patched i c f p at bytes) e q k = past q k
    go (seen.Hardened i) e q k = past q k
    go (seen.Dropped i cause) e q k = past q k
    go (seen.Answered c op answer) e q k = past q k
    go (seen.Sent n m) e q k = past q k
    go (seen.Submitted n c number what) e q k = past q k
    go (seen.Leased c s end) e q k = past q k
    go (seen.Lost c s life) e q k = past q k
    go (seen.Suspected s c start) e q k = past q k
    go (seen.Stolen s c life) e q k = past q k

-- An event.
module _ (it : Witness) (x : Step) (v u : Volume) (led : run (steps_of it v x) v ≡ Some u)
    (old : IsLogOf x.before.world.log v)
    (told : lines.IsLogTold x.after.world x.before.world.log x.seen)
    (new : IsLogOf x.after.world.log u) where
  goes : Goes v u
  goes = subst (OnSome (Goes v)) led (run_goes (steps_of it v x) v)

  added : whats u.log ≡ whats v.log ++ told_asks x.seen
  added =
      whats_are x.after.world.log u.log new.entries
      ∙ (ap asks_in (sym told.entries)
      ∙ (all_asks x.after.world x.before.world.log x.seen
      ∙ ap (λ xs. xs ++ told_asks x.seen) (sym (whats_are x.before.world.log v.log old.entries))))

  its : goes.grown.more ≡ told_asks x.seen
  its = same_rest (whats v.log) goes.grown.more (told_asks x.seen) (sym goes.grown.log ∙ added)

  pub kept_or_cut : (y : Place) → Has y v.claims → Has y u.claims ⊎ CutSeen y x.seen
  kept_or_cut y i = go (goes.grown.kept y i)
    where
      go : Has y u.claims ⊎ (list_any (cuts_place y) goes.grown.more ≡ true) →
          Has y u.claims ⊎ CutSeen y x.seen
      go (inl j) = inl j
      go (inr q) = inr (cut_seen y x.seen (ap (list_any (cuts_place y)) (sym its) ∙ q))

  pub open_kept : OpenWanted v → OpenWanted u
  open_kept = goes.open_

  pub asked_or_cut : (c : ClientId) (ask : Ask) → x.event ≡ events.App c ask → (y : Place) →
      place_of ask ≡ Some y → Has y u.claims ⊎ CutSeen y x.seen
  unfolding of_event
  asked_or_cut c ask is y e =
      go (asked_first c ask _ v u
      (subst (λ z. run (of_event x.before.world z ++ rest) v ≡ Some u) is led)
      (told_asks x.seen)
      added y e)
    where
      rest : List VolumeStep
      rest = of_delivery it.behind v x.before.world x.event ++ of_lines x.before.world x.seen

      go : Has y u.claims ⊎ (list_any (cuts_place y) (told_asks x.seen) ≡ true) →
          Has y u.claims ⊎ CutSeen y x.seen
      go (inl j) = inl j
      go (inr q) = inr (cut_seen y x.seen q)
