-- Every entry of the world's log fits its page: it is as it was asked.
use Rattle.st_lemmas.proofs.Lookups.{some_is}
use Rattle.std.proofs.Common.{if◌then◌else◌, ◌≡◌, ℕ, zero, suc, ◌+◌, Bool, true, false, ◌&&◌, ◌==◌, List, [], ◌∷◌, ◌++◌, length, map, Option, Some, None, refl, sym, ap, ◌∙◌, subst, arith}
use Rattle.std.specs.Prelude.{filter_map, nat_le, set, slice_get, ◌-◌}
use Rattle.std.specs.List.{cons_option, list_all}
use Rattle.std.proofs.lemmas.Bool.{le-leb, leb-true}
use Rattle.st_base.specs.declared.ids.ClientId.{ClientId}
use Rattle.st_base.specs.declared.ids.FileId.{FileId}
use Rattle.st_base.specs.declared.ids.PageNo.{PageNo}
use Rattle.st_messages.specs.declared.answer.AppAnswer.TheVariants as answers
use Rattle.st_messages.specs.declared.ask.Ask.{Ask}
use Rattle.st_messages.specs.declared.ask.Ask.TheVariants as asks
use Rattle.st_messages.specs.declared.event.Event.{Event}
use Rattle.st_messages.specs.declared.event.Event.TheVariants as events
use Rattle.st_messages.specs.Kinds.{between}
use Rattle.st_messages.specs.Ranges.{has_length, is_ask, is_file, is_page, is_whole_page}
use Rattle.st_rules.specs.declared.log.Change.TheVariants as changes
use Rattle.st_rules.specs.declared.log.Fate.{Fate}
use Rattle.st_rules.specs.declared.log.Fate.TheVariants as fates
use Rattle.st_rules.specs.declared.log.LogEntry.{LogEntry}
use Rattle.st_rules.specs.declared.observation.Observation.{Observation}
use Rattle.st_rules.specs.declared.observation.Observation.TheVariants as seen
use Rattle.st_rules.specs.FlatLog as log
use Rattle.st_rules.specs.Keys.{same_client}
use Rattle.st_rules.specs.Lines as lines
use Rattle.st_rules.specs.Safety.{AreLogged, IsLogged, IsLoggedWrite, Step, all_followed, ask_in, ask_of, ask_of_client, begins_written, event_of, is_event, is_followed, is_written_to}
use Rattle.st_rules.specs.World.{World, numbered}
use Rattle.st_lemmas.proofs.Tables.{and_both, and_true}
use Rattle.st_lemmas.proofs.Tests.{all_last}
use Rattle.st_laws_volume.proofs.ReadContents.{fits, fits_page}

-- the event of a step is in its ranges, in a world of this many nodes
abbrev pub is_in_range : ℕ → Step → Bool
is_in_range n x = is_event n x.event

all_get : {A : Type 0} (test : A → Bool) (xs : List A) (n : ℕ) (x : A) → list_all test xs ≡ true → slice_get xs n ≡ Some x → test x ≡ true
all_get test [] n x p q = cc
all_get test (y ∷ xs) zero x p q = ap test (sym (some_is q)) ∙ (and_true (test y) (list_all test xs) p).0
all_get test (y ∷ xs) (suc n) x p q = all_get test xs n x (and_true (test y) (list_all test xs) p).1 q

all_set : {A : Type 0} (test : A → Bool) (xs : List A) (n : ℕ) (x : A) → list_all test xs ≡ true → test x ≡ true → list_all test (set xs n x) ≡ true
all_set test [] n x p q = refl
all_set test (y ∷ xs) zero x p q = and_both (test x) (list_all test xs) q (and_true (test y) (list_all test xs) p).1
all_set test (y ∷ xs) (suc n) x p q = let b = and_true (test y) (list_all test xs) p in and_both (test y) _ b.0 (all_set test xs n x b.1 q)

-- Asks are in their ranges.
abbrev AskedInRange : Option Ask → Type 0
AskedInRange None = Unit {0}
AskedInRange (Some ask) = is_ask ask ≡ true

asked_in_range : (n : ℕ) (c : ClientId) (e : Event) → is_event n e ≡ true → AskedInRange (ask_in c e)
unfolding ask_of_client
asked_in_range n c (events.App d ask) r = go (same_client c d)
  where
    go : (b : Bool) → AskedInRange (if b then Some ask else None)
    go true = r
    go false = tt
asked_in_range n c (events.Tick x) r = tt
asked_in_range n c (events.Deliver k) r = tt
asked_in_range n c (events.Lose k) r = tt
asked_in_range n c (events.Cut from to) r = tt
asked_in_range n c (events.Heal from to) r = tt
asked_in_range n c (events.Advance increments) r = tt
asked_in_range n c (events.Effect k) r = tt
asked_in_range n c (events.Report k ok) r = tt
asked_in_range n c (events.Crash x) r = tt
asked_in_range n c (events.Start x) r = tt

pub asks_in_range : (n : ℕ) (c : ClientId) (xs : List Step) → list_all (is_in_range n) xs ≡ true →
    list_all is_ask (filter_map (ask_in c) (map event_of xs)) ≡ true
asks_in_range n c [] r = refl
asks_in_range n c (x ∷ xs) r =
    let b = and_true (is_in_range n x) (list_all (is_in_range n) xs) r in go (ask_in c x.event) (asked_in_range n c x.event b.0) (asks_in_range n c xs b.1)
  where
    go : (o : Option Ask) → AskedInRange o → list_all is_ask (filter_map (ask_in c) (map event_of xs)) ≡ true →
        list_all is_ask (cons_option o (filter_map (ask_in c) (map event_of xs))) ≡ true
    go None p q = q
    go (Some ask) p q = and_both (is_ask ask) _ p q

pub numbered_in_range : (xs : List Ask) (op : ℕ) (ask : Ask) → list_all is_ask xs ≡ true → numbered xs op ≡ Some ask → is_ask ask ≡ true
numbered_in_range xs zero ask p q = cc
numbered_in_range xs (suc n) ask p q = all_get is_ask xs n ask p q

-- A line is as it was asked.
abbrev LineFits : Observation → Type 0
LineFits (seen.Wrote i c f p bytes) = fits (changes.Write bytes) ≡ true
LineFits (seen.Patched i c f p at bytes) = fits (changes.Patch at bytes) ≡ true
LineFits o = Unit {0}

whole_page : (f : FileId) (p : PageNo) (bytes : List ℕ) → is_ask (asks.Write f p bytes) ≡ true → (length bytes == 4096) ≡ true
unfolding is_ask
whole_page f p bytes h = (and_true (is_page 0 p.0) (is_whole_page bytes) (and_true (is_file 1 f) (is_page 0 p.0 && is_whole_page bytes) h).1).1

within_page : (f : FileId) (p : PageNo) (at : ℕ) (bytes : List ℕ) → is_ask (asks.Patch f p at bytes) ≡ true → nat_le (at + length bytes) 4096 ≡ true
unfolding is_ask
within_page f p at bytes h =
    let a = and_true (is_file 1 f) (is_page 0 p.0 && (between 0 4095 at && has_length 1 (4096 - at) bytes)) h in
    let c = and_true (is_page 0 p.0) (between 0 4095 at && has_length 1 (4096 - at) bytes) a.1 in
    let b = and_true (between 0 4095 at) (has_length 1 (4096 - at) bytes) c.1 in
    let low = and_true (nat_le 0 at) (nat_le at 4095) b.0 in
    let long = and_true (nat_le 1 (length bytes)) (nat_le (length bytes) (4096 - at)) b.1 in
    le-leb (at + length bytes) 4096 (let x = leb-true at 4095 low.1 in let y = leb-true (length bytes) (4096 - at) long.1 in omega (arith, x, y))

abbrev bytes_told : Observation → List ℕ
bytes_told (seen.Wrote i c f p bytes) = bytes
bytes_told (seen.Patched i c f p at bytes) = bytes
bytes_told o = []

abbrev place_told : Observation → ℕ
place_told (seen.Patched i c f p at bytes) = at
place_told o = 0

logged_fits : (c : ClientId) (asked : Option Ask) (o : Observation) → AskedInRange asked → IsLoggedWrite c asked o → LineFits o
logged_fits c (Some (asks.Write f p bytes)) (seen.Wrote i d g q old) r l = ap (λ bs. length bs == 4096) (ap bytes_told l) ∙ whole_page f p bytes r
logged_fits c (Some (asks.Patch f p at bytes)) (seen.Patched i d g q place old) r l =
    ap (λ bs. nat_le (place + length bs) 4096) (ap bytes_told l) ∙ (ap (λ n. nat_le (n + length bytes) 4096) (ap place_told l) ∙ within_page f p at bytes r)
logged_fits c None (seen.Wrote i d g q old) r l = absurd l
logged_fits c (Some (asks.Patch f p at bytes)) (seen.Wrote i d g q old) r l = absurd l
logged_fits c (Some (asks.Read f p)) (seen.Wrote i d g q old) r l = absurd l
logged_fits c (Some (asks.Sync f)) (seen.Wrote i d g q old) r l = absurd l
logged_fits c (Some (asks.Cut f p)) (seen.Wrote i d g q old) r l = absurd l
logged_fits c (Some (asks.Name s n)) (seen.Wrote i d g q old) r l = absurd l
logged_fits c None (seen.Patched i d g q place old) r l = absurd l
logged_fits c (Some (asks.Write f p bytes)) (seen.Patched i d g q place old) r l = absurd l
logged_fits c (Some (asks.Read f p)) (seen.Patched i d g q place old) r l = absurd l
logged_fits c (Some (asks.Sync f)) (seen.Patched i d g q place old) r l = absurd l
logged_fits c (Some (asks.Cut f p)) (seen.Patched i d g q place old) r l = absurd l
logged_fits c (Some (asks.Name s n)) (seen.Patched i d g q place old) r l = absurd l
logged_fits c asked (seen.Sent k m) r l = tt
logged_fits c asked (seen.Submitted k d number what) r l = tt
logged_fits c asked (seen.Answered d op answer) r l = tt
logged_fits c asked (seen.CutAt i g q) r l = tt
logged_fits c asked (seen.Hardened i) r l = tt
logged_fits c asked (seen.Dropped i cause) r l = tt
logged_fits c asked (seen.Leased d s end) r l = tt
logged_fits c asked (seen.Lost d s life) r l = tt
logged_fits c asked (seen.Suspected s d start) r l = tt
logged_fits c asked (seen.Stolen s d life) r l = tt

-- Entries fit.
abbrev pub Fit : List LogEntry → Type 0
Fit es = list_all fits_page es ≡ true

fated_fits : (es : List LogEntry) (index : ℕ) (fate : Fate) → Fit es → Fit (lines.fated es index fate)
fated_fits es zero fate h = h
fated_fits es (suc n) fate h = go (slice_get es n) refl
  where
    go : (o : Option LogEntry) → slice_get es n ≡ o → Fit (lines.with_fate (suc n) fate o es)
    go None q = h
    go (Some e) q = all_set fits_page es n (record e { fate = fate }) h (all_get fits_page es n e h q)

-- The line after a write or a patch is its client's answer `written`.
abbrev pub Written : Observation → Type 0
Written a = (d : ClientId) × (op : ℕ) × (a ≡ seen.Answered d op answers.Written)

pub written_is : (c : ClientId) (a : Observation) → is_written_to c a ≡ true → Written a
written_is c (seen.Answered d op answers.Written) h = (d, op, refl)
written_is c (seen.Answered d op (answers.Read bytes)) h = cc
written_is c (seen.Answered d op answers.Hard) h = cc
written_is c (seen.Answered d op (answers.Lost rows)) h = cc
written_is c (seen.Answered d op answers.Cut) h = cc
written_is c (seen.Answered d op answers.Quiesced) h = cc
written_is c (seen.Answered d op answers.NoFile) h = cc
written_is c (seen.Answered d op (answers.NoSpace n m)) h = cc
written_is c (seen.Answered d op (answers.DiskFault n)) h = cc
written_is c (seen.Answered d op answers.OpsFull) h = cc
written_is c (seen.Answered d op (answers.Uncertain old new)) h = cc
written_is c (seen.Answered d op answers.DirtyFull) h = cc
written_is c (seen.Answered d op answers.NotHolder) h = cc
written_is c (seen.Answered d op answers.TooManyLocks) h = cc
written_is c (seen.Answered d op (answers.Named ino)) h = cc
written_is c (seen.Answered d op (answers.Listed rows)) h = cc
written_is c (seen.Answered d op (answers.Refused code)) h = cc
written_is c (seen.Sent k m) h = cc
written_is c (seen.Submitted k d number what) h = cc
written_is c (seen.Wrote i d g q old) h = cc
written_is c (seen.Patched i d g q place old) h = cc
written_is c (seen.CutAt i g q) h = cc
written_is c (seen.Hardened i) h = cc
written_is c (seen.Dropped i cause) h = cc
written_is c (seen.Leased d s end) h = cc
written_is c (seen.Lost d s life) h = cc
written_is c (seen.Suspected s d start) h = cc
written_is c (seen.Stolen s d life) h = cc

module _ (n : ℕ) (past : List Step) (x : Step) (ranged : list_all (is_in_range n) (past ++ x ∷ []) ≡ true) where
  ask_fits : (c : ClientId) (op : ℕ) → AskedInRange (ask_of past x c op)
  ask_fits c op = go (ask_of past x c op) refl
    where
      go : (o : Option Ask) → ask_of past x c op ≡ o → AskedInRange o
      go None q = tt
      go (Some ask) q = numbered_in_range (filter_map (ask_in c) (map event_of (past ++ x ∷ []))) op ask (asks_in_range n c (past ++ x ∷ []) ranged) q

  followed_fits : (c : ClientId) (o : Observation) (os : List Observation) → begins_written c os ≡ true → AreLogged past x (Some o) os → LineFits o
  unfolding AreLogged
  followed_fits c o [] b l = cc
  followed_fits c o (a ∷ os) b l =
      let w = written_is c a b in
      logged_fits w.0 (ask_of past x w.0 w.1) o (ask_fits w.0 w.1) (subst (IsLogged past x (Some o)) w.2 l.0)

  pub line_fits : (o : Observation) (os : List Observation) → is_followed o os ≡ true → AreLogged past x (Some o) os → LineFits o
  line_fits (seen.Sent k m) os b l = tt
  line_fits (seen.Submitted k d number what) os b l = tt
  line_fits (seen.Answered d op answer) os b l = tt
  line_fits (seen.Wrote i d g q old) os b l = followed_fits d (seen.Wrote i d g q old) os b l
  line_fits (seen.Patched i d g q place old) os b l = followed_fits d (seen.Patched i d g q place old) os b l
  line_fits (seen.CutAt i g q) os b l = tt
  line_fits (seen.Hardened i) os b l = tt
  line_fits (seen.Dropped i cause) os b l = tt
  line_fits (seen.Leased d s end) os b l = tt
  line_fits (seen.Lost d s life) os b l = tt
  line_fits (seen.Suspected s d start) os b l = tt
  line_fits (seen.Stolen s d life) os b l = tt

  pub behind_fits : (f : World) (es : List LogEntry) (o : Observation) → LineFits o → Fit es → Fit (lines.log_behind f es o)
  unfolding lines.log_behind log.accept log.patch log.cut
  behind_fits f es (seen.Sent k m) l h = h
  behind_fits f es (seen.Submitted k d number what) l h = h
  behind_fits f es (seen.Answered d op answer) l h = h
  behind_fits f es (seen.Wrote i d g q old) l h = all_last fits_page es _ h l
  behind_fits f es (seen.Patched i d g q place old) l h = all_last fits_page es _ h l
  behind_fits f es (seen.CutAt i g q) l h = all_last fits_page es (log.hard_cut g q) h refl
  behind_fits f es (seen.Hardened i) l h = fated_fits es i fates.Hard h
  behind_fits f es (seen.Dropped i cause) l h = fated_fits es i (fates.Gone cause) h
  behind_fits f es (seen.Leased d s end) l h = h
  behind_fits f es (seen.Lost d s life) l h = h
  behind_fits f es (seen.Suspected s d start) l h = h
  behind_fits f es (seen.Stolen s d life) l h = h

  pub told_fits : (f : World) (es : List LogEntry) (line : Option Observation) (os : List Observation) → all_followed os ≡ true → AreLogged past x line os →
      Fit es → Fit (lines.log_told f es os)
  unfolding lines.log_told all_followed AreLogged
  told_fits f es line [] b l h = h
  told_fits f es line (o ∷ os) b l h =
      let p = and_true (is_followed o os) (all_followed os) b in
      told_fits f (lines.log_behind f es o) (Some o) os p.1 l.1 (behind_fits f es o (line_fits o os p.0 l.1) h)
