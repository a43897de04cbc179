-- What the lines of fates and entries count in the log.
use Rattle.st_lemmas.proofs.Words
use Words.{◌≡◌, ℕ, ◌+◌, Bool, true, false, ◌&&◌, List, [], ◌∷◌, ◌++◌, Option, Some, None, refl, sym, ap, ◌∙◌, arith, if◌then◌else◌, length-append, length}
use Words.{filter, not, set, slice_get, suc, zero, Fate, LogEntry, Observation}
use Words.fates
use Words.seen
use Words.Events.{is_change, is_gone, is_hard}
use Words.FlatLog as log
use Words.Lines as lines
use Words.World.{World}
use Words.Tables.{and_true}
use Rattle.std.proofs.lemmas.List.Elements.{filter-append}
use Rattle.st_promises.specs.Counts.{count_lines, is_change_line, is_drop_line, is_hard_line}

-- 1 if a test passes
abbrev pub one : Bool → ℕ
one true = 1
one false = 0

-- a pending entry is a write or a patch
abbrev pub Open_changes : List LogEntry → Type 0
Open_changes [] = Unit {0}
Open_changes (e ∷ es) = record { first : log.is_pending e.fate ≡ true → is_change e ≡ true; rest : Open_changes es }

-- What lines count in two logs.
pub record Counts (es : List LogEntry) (os : List Observation) (fs : List LogEntry) : Type 0 where
  pub writes : length (filter is_change fs) ≡ length (filter is_change es) + count_lines is_change_line os
  pub hard : length (filter is_hard fs) ≡ length (filter is_hard es) + count_lines is_hard_line os
  pub gone : length (filter is_gone fs) ≡ length (filter is_gone es) + count_lines is_drop_line os

none_count : (es : List LogEntry) → Counts es [] es
none_count es = record { writes = omega arith; hard = omega arith; gone = omega arith }

count_first : (p : Observation → Bool) (o : Observation) (os : List Observation) → count_lines p (o ∷ os) ≡ one (p o) + count_lines p os
count_first p o os = go (p o)
  where
    go : (b : Bool) → length (if b then o ∷ filter p os else filter p os) ≡ one b + length (filter p os)
    go true = omega arith
    go false = omega arith

filter_first : (p : LogEntry → Bool) (e : LogEntry) (es : List LogEntry) → length (filter p (e ∷ es)) ≡ one (p e) + length (filter p es)
filter_first p e es = go (p e)
  where
    go : (b : Bool) → length (if b then e ∷ filter p es else filter p es) ≡ one b + length (filter p es)
    go true = omega arith
    go false = omega arith

filter_last : (p : LogEntry → Bool) (es : List LogEntry) (e : LogEntry) → length (filter p (es ++ e ∷ [])) ≡ length (filter p es) + one (p e)
filter_last p es e =
    ap length (filter-append p es (e ∷ [])) ∙ length-append (filter p es) (filter p (e ∷ []))
    ∙ (let z = filter_first p e [] in omega (arith, z))

-- an entry replaced
filter_set : (p : LogEntry → Bool) (es : List LogEntry) (n : ℕ) (e f : LogEntry) → slice_get es n ≡ Some e → length (filter p (set es n f)) + one (p e) ≡ length (filter p es) + one (p f)
filter_set p [] n e f q = cc
filter_set p (x ∷ es) zero e f q = let a = filter_first p f es in let b = filter_first p x es in let c : one (p x) ≡ one (p e) = ap (λ z. one (p z)) (some q) in omega (arith, a, b, c)
  where
    some : Some x ≡ Some e → x ≡ e
    some r = cc
filter_set p (x ∷ es) (suc n) e f q = let a = filter_first p x (set es n f) in let b = filter_first p x es in let c = filter_set p es n e f q in omega (arith, a, b, c)

open_last : (es : List LogEntry) (e : LogEntry) → (log.is_pending e.fate ≡ true → is_change e ≡ true) → Open_changes es → Open_changes (es ++ e ∷ [])
open_last [] e q h = record { first = q; rest = tt }
open_last (x ∷ es) e q h = record { first = h.first; rest = open_last es e q h.rest }

open_set : (es : List LogEntry) (n : ℕ) (f : LogEntry) → (log.is_pending f.fate ≡ true → is_change f ≡ true) → Open_changes es → Open_changes (set es n f)
open_set [] n f q h = tt
open_set (x ∷ es) zero f q h = record { first = q; rest = h.rest }
open_set (x ∷ es) (suc n) f q h = record { first = h.first; rest = open_set es n f q h.rest }

open_at : (es : List LogEntry) (n : ℕ) (e : LogEntry) → slice_get es n ≡ Some e → Open_changes es → log.is_pending e.fate ≡ true → is_change e ≡ true
open_at [] n e q h = cc
open_at (x ∷ es) zero e q h = λ p. ap is_change (sym (some q)) ∙ h.first (ap (λ (z : LogEntry). log.is_pending z.fate) (some q) ∙ p)
  where
    some : Some x ≡ Some e → x ≡ e
    some r = cc
open_at (x ∷ es) (suc n) e q h = open_at es n e q h.rest

-- one line
pub record Line_counts (es : List LogEntry) (o : Observation) (fs : List LogEntry) : Type 0 where
  pub open_ : Open_changes fs
  pub writes : length (filter is_change fs) ≡ length (filter is_change es) + one (is_change_line o)
  pub hard : length (filter is_hard fs) ≡ length (filter is_hard es) + one (is_hard_line o)
  pub gone : length (filter is_gone fs) ≡ length (filter is_gone es) + one (is_drop_line o)

same_line : (es : List LogEntry) (o : Observation) → one (is_change_line o) ≡ 0 → one (is_hard_line o) ≡ 0 → one (is_drop_line o) ≡ 0 → Open_changes es → Line_counts es o es
same_line es o a b c h = record { open_ = h; writes = omega (arith, a); hard = omega (arith, b); gone = omega (arith, c) }

last_line : (es : List LogEntry) (o : Observation) (e : LogEntry) → (log.is_pending e.fate ≡ true → is_change e ≡ true) → one (is_change e) ≡ one (is_change_line o) → one (is_hard e) ≡ one (is_hard_line o) →
    one (is_gone e) ≡ one (is_drop_line o) → Open_changes es → Line_counts es o (es ++ e ∷ [])
last_line es o e q a b c h =
    record {
      open_ = open_last es e q h;
      writes = let z = filter_last is_change es e in omega (arith, z, a);
      hard = let z = filter_last is_hard es e in omega (arith, z, b);
      gone = let z = filter_last is_gone es e in omega (arith, z, c);
    }

-- a pending entry gets its fate
fated_line : (es : List LogEntry) (o : Observation) (n : ℕ) (x : Fate) → log.is_pending x ≡ false → one (is_change_line o) ≡ 0 → one (Rattle.st_rules.specs.Events.is_hard_fate x) ≡ one (is_hard_line o) →
    one (not (log.counts x)) ≡ one (is_drop_line o) → lines.is_pending_at es n ≡ true → Open_changes es → Line_counts es o (lines.fated es n x)
fated_line es o zero x p a b c q h = cc
fated_line es o (suc n) x p a b c q h = go (slice_get es n) refl q
  where
    go : (z : Option LogEntry) → slice_get es n ≡ z → lines.is_pending_entry z ≡ true → Line_counts es o (lines.with_fate (suc n) x z es)
    go None f q = cc
    go (Some e) f q =
        let g : LogEntry = record e { fate = x } in
        let change : is_change e ≡ true = open_at es n e f h q in
        record {
          open_ = open_set es n g (λ r. absurd (no (sym p ∙ r))) h;
          writes = let z = filter_set is_change es n e g f in omega (arith, z, a);
          hard =
              let z = filter_set is_hard es n e g f in
              let u : one (is_hard e) ≡ 0 = before e.fate q change in
              let v : one (is_hard g) ≡ one (Rattle.st_rules.specs.Events.is_hard_fate x) = ap (λ k. one (k && Rattle.st_rules.specs.Events.is_hard_fate x)) change in
              omega (arith, z, u, v, b);
          gone =
              let z = filter_set is_gone es n e g f in
              let u : one (is_gone e) ≡ 0 = kept e.fate q in
              omega (arith, z, u, c);
        }
      where
        no : false ≡ true → ⊥
        no r = cc

        before : (y : Fate) → log.is_pending y ≡ true → is_change e ≡ true → one (is_change e && Rattle.st_rules.specs.Events.is_hard_fate y) ≡ 0
        before fates.Pending q r = ap (λ k. one (k && false)) r
        before fates.Hard q r = cc
        before (fates.Gone d) q r = cc

        kept : (y : Fate) → log.is_pending y ≡ true → one (not (log.counts y)) ≡ 0
        kept fates.Pending q = refl
        kept fates.Hard q = cc
        kept (fates.Gone d) q = cc

each_line : (w : World) (es : List LogEntry) (o : Observation) → lines.tells_log es o ≡ true → Open_changes es → Line_counts es o (lines.log_behind w es o)
unfolding lines.log_behind log.accept log.patch log.cut
each_line w es (seen.Wrote i c f p bytes) t h = last_line es (seen.Wrote i c f p bytes) _ (λ q. refl) refl refl refl h
each_line w es (seen.Patched i c f p at bytes) t h = last_line es (seen.Patched i c f p at bytes) _ (λ q. refl) refl refl refl h
each_line w es (seen.CutAt i f p) t h = last_line es (seen.CutAt i f p) _ (λ q. cc) refl refl refl h
each_line w es (seen.Hardened i) t h = fated_line es (seen.Hardened i) i fates.Hard refl refl refl refl t h
each_line w es (seen.Dropped i c) t h = fated_line es (seen.Dropped i c) i (fates.Gone c) refl refl refl refl t h
each_line w es (seen.Sent k m) t h = same_line es (seen.Sent k m) refl refl refl h
each_line w es (seen.Submitted k c n x) t h = same_line es (seen.Submitted k c n x) refl refl refl h
each_line w es (seen.Answered c op a) t h = same_line es (seen.Answered c op a) refl refl refl h
each_line w es (seen.Leased c s e) t h = same_line es (seen.Leased c s e) refl refl refl h
each_line w es (seen.Lost c s l) t h = same_line es (seen.Lost c s l) refl refl refl h
each_line w es (seen.Suspected s c l) t h = same_line es (seen.Suspected s c l) refl refl refl h
each_line w es (seen.Stolen s c l) t h = same_line es (seen.Stolen s c l) refl refl refl h

-- all lines of a step
pub log_counts : (w : World) (es : List LogEntry) (os : List Observation) → lines.all_tell_log w es os ≡ true → Open_changes es → Counts es os (lines.log_told w es os) × Open_changes (lines.log_told w es os)
unfolding lines.all_tell_log lines.log_told
log_counts w es [] t h = (none_count es, h)
log_counts w es (o ∷ os) t h =
    let both = and_true (lines.tells_log es o) (lines.all_tell_log w (lines.log_behind w es o) os) t in
    let x = each_line w es o both.0 h in
    let y = log_counts w (lines.log_behind w es o) os both.1 x.open_ in
    let a = count_first is_change_line o os in
    let b = count_first is_hard_line o os in
    let c = count_first is_drop_line o os in
    let x1 = x.writes in let y1 = y.0.writes in
    let x2 = x.hard in let y2 = y.0.hard in
    let x3 = x.gone in let y3 = y.0.gone in
    (record { writes = omega (arith, x1, y1, a); hard = omega (arith, x2, y2, b); gone = omega (arith, x3, y3, c) }, y.1)
