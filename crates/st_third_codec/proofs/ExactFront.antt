-- The front of a message is read exactly: its kind, and its header, in the first two forms and in the third.
use Rattle.std.proofs.Common.{◌≡◌, ℕ, Bool, true, List, [], ◌∷◌, ◌++◌, Some, Ok, Err, refl, sym, ap, subst, ◌∙◌, cond, append_assoc, arith, inl, inr}
use Rattle.std.specs.Prelude.{◌&&◌, ◌==◌, ◌^◌, nat_le, find, ⊤}
use Rattle.std.proofs.lemmas.Bool.{and_parts, or_cases, eqb-true, cases_Bool, lt-ltb}
use Rattle.st_codec_fields.specs.declared.fault.Fault.TheVariants as faults
use Rattle.st_messages.specs.declared.kind.Kind.{Kind}
use Rattle.st_messages.specs.declared.kind.Kind.TheVariants as kinds
use Rattle.st_messages.specs.declared.kind.Need.{Need}
use Rattle.st_messages.specs.declared.kind.Need.TheVariants.{Zero, Positive, Any}
use Rattle.st_messages.specs.declared.kind.Party.{Party}
use Rattle.st_messages.specs.declared.kind.Party.TheVariants.{Client, Server, Node, Surroundings}
use Rattle.st_messages.specs.declared.message.Header.{Header}
use Rattle.st_messages.specs.Kinds.{between, is_word64, allows, sender, receiver, life_of, epoch_of, request_of, stamp_of}
use Rattle.st_messages.specs.Kinds as first
use Rattle.st_messages.specs.Ranges.{is_word16, are_ages, are_marks}
use Rattle.st_messages.specs.Ranges as first_ranges
use Rattle.st_codec.specs.KindBytes.{version_of, number_of, all_kinds, is_kind, kind_of}
use Rattle.st_codec.specs.Decoder.{found, needed_at, ages_at, marks_at}
use Rattle.st_codec.specs.Decoder as plain
use Rattle.st_codec.specs.Spelling.{header, nodes, ages, marks}
use Rattle.st_codec_fields.specs.Decoder.{◌>>=◌, Reader, seq, made, checked, byte_at, word16_at, word64_at}
use Rattle.st_codec_fields.specs.Spelling.{word16, word64}
use Rattle.st_codec_fields.proofs.Exact.{IsBytes, Takes, Takes-then, Exact, Sound, bind_ok, guard_ok, ok_is, pair_exact, triple_exact, checked_exact, renamed, byte_exact}
use Rattle.st_codec_fields.proofs.ExactFields.{word16_exact, word64_exact, at_most}
use Rattle.st_codec.proofs.ExactBody.{cells, found_ok}
use Rattle.st_third.specs.Messages.{includes, is_header, front}
use Rattle.st_third_codec.specs.Decoder.{version_at, kind_at, party_at, nodes_at, header_at, front_at}

-- ---- the kind

-- the kind as which a message is read: all asks have one number
abbrev pub read_as : Kind → Kind
read_as kinds.Patch = kinds.App
read_as k = k

find_holds : {X : Type 0} (p : X → Bool) (xs : List X) (x : X) → find p xs ≡ Some x → p x ≡ true
find_holds p [] x e = absurd cc
find_holds {X} p (y ∷ ys) x e =
    elim (cases_Bool (p y)) [
      | inl t ↦ let is : Some y ≡ Some x = rw t at e in
          let y-is : y ≡ x = cc in
          subst (λ (z : X). p z ≡ true) y-is t
      | inr f ↦ find_holds p ys x (rw f at e)
    ]

number_is : (n : ℕ) (k : Kind) → kind_of 1 n ≡ Some k → number_of k ≡ n
unfolding kind_of
number_is n k e = eqb-true _ _ (and_parts (version_of k == 1) (number_of k == n) (find_holds (is_kind 1 n) all_kinds k e)).1

kind_again : (k : Kind) → kind_of 1 (number_of k) ≡ Some (read_as k)
unfolding kind_of
kind_again kinds.Hello = refl
kind_again kinds.KeepAlive = refl
kind_again kinds.Acquire = refl
kind_again kinds.Released = refl
kind_again kinds.Map = refl
kind_again kinds.Allocate = refl
kind_again kinds.Cut = refl
kind_again kinds.Name = refl
kind_again kinds.Reassert = refl
kind_again kinds.DemandSeen = refl
kind_again kinds.Welcome = refl
kind_again kinds.Ack = refl
kind_again kinds.Nack = refl
kind_again kinds.Granted = refl
kind_again kinds.Queued = refl
kind_again kinds.Demand = refl
kind_again kinds.Extents = refl
kind_again kinds.Named = refl
kind_again kinds.Reasserted = refl
kind_again kinds.Tick = refl
kind_again kinds.App = refl
kind_again kinds.Patch = refl
kind_again kinds.AppDone = refl
kind_again kinds.Submit = refl
kind_again kinds.Done = refl

-- the version and the number
abbrev pub two_bytes : Kind → List ℕ
two_bytes k = 3 ∷ number_of k ∷ []

kind_sound : Sound kind_at two_bytes (λ k. ⊤)
unfolding kind_at version_at
kind_sound = record {
  takes = λ bytes x fits e.
      let v = bind_ok (version_at bytes) (λ version. byte_at version.1 >>= λ number. found faults.Kind (kind_of 1 number.0) number.1) x e in
      let n = bind_ok (byte_at v.0.1) (λ number. found faults.Kind (kind_of 1 number.0) number.1) x v.2 in
      let f = found_ok faults.Kind (kind_of 1 n.0.0) n.0.1 x n.2 in
      let b = bind_ok (byte_at bytes) (λ n. cond (n.0 == 3) (Ok n) (Err faults.Version)) v.0 v.1 in
      let g = guard_ok (b.0.0 == 3) faults.Version b.0 v.0 b.2 in
      let three : b.0.0 ≡ 3 = eqb-true b.0.0 3 g.0 in
      let is_three : 3 ≡ v.0.0 = sym three ∙ ap (λ (y : ℕ × List ℕ). y.0) g.1 in
      let first = byte_exact.sound.takes bytes v.0 fits (b.1 ∙ ap (λ (y : ℕ × List ℕ). Ok y) g.1) in
      let second = byte_exact.sound.takes v.0.1 n.0 first.0.rest_fits n.1 in
      let same : number_of x.0 ≡ n.0.0 = number_is n.0.0 x.0 f.0 in
      let both = Takes-then bytes (v.0.0 ∷ []) v.0.1 (n.0.0 ∷ []) n.0.1 first.0 second.0 in (
        record {
          parts = both.parts ∙ cells v.0.0 3 (n.0.0 ∷ n.0.1) (number_of x.0 ∷ x.1) is_three (cells n.0.0 (number_of x.0) n.0.1 x.1 same f.1);
          rest_fits =
              subst IsBytes f.1 both.rest_fits;
        },
        tt,
      );
}

kind_read : (k : Kind) (rest : List ℕ) → kind_at (two_bytes k ++ rest) ≡ Ok (read_as k, rest)
unfolding kind_at version_at
kind_read k rest = rw (kind_again k) refl

-- ---- the header

first_word : (p : Party) (n : ℕ) → first.includes p n ≡ true → is_word16 n ≡ true
first_word Client n e = lt-ltb n (2 ^ 16) (omega (arith, at_most 1 16 n e))
first_word Server n e = lt-ltb n (2 ^ 16) (omega (arith, at_most 32769 32772 n e))
first_word Node n e = elim (or_cases (between 1 16 n) (between 32769 32772 n) e) [
  | inl h ↦ lt-ltb n (2 ^ 16) (omega (arith, at_most 1 16 n h))
  | inr h ↦ lt-ltb n (2 ^ 16) (omega (arith, at_most 32769 32772 n h))
]
first_word Surroundings n e = lt-ltb n (2 ^ 16) (omega (arith, eqb-true n 0 e))

third_word : (p : Party) (n : ℕ) → includes p n ≡ true → is_word16 n ≡ true
third_word Client n e = lt-ltb n (2 ^ 16) (omega (arith, at_most 1 64 n e))
third_word Server n e = lt-ltb n (2 ^ 16) (omega (arith, at_most 32769 32776 n e))
third_word Node n e = elim (or_cases (between 1 64 n) (between 32769 32776 n) e) [
  | inl h ↦ lt-ltb n (2 ^ 16) (omega (arith, at_most 1 64 n h))
  | inr h ↦ lt-ltb n (2 ^ 16) (omega (arith, at_most 32769 32776 n h))
]
third_word Surroundings n e = lt-ltb n (2 ^ 16) (omega (arith, eqb-true n 0 e))

need_word : (p : Need) (n : ℕ) → allows p n ≡ true → is_word64 n ≡ true
need_word Zero n e = lt-ltb n (2 ^ 64) (omega (arith, eqb-true n 0 e))
need_word Positive n e = (and_parts (nat_le 1 n) (is_word64 n) e).1
need_word Any n e = e

need_exact : (p : Need) → Exact (needed_at p) word64 (allows p)
unfolding needed_at
need_exact p = checked_exact word64_at word64 is_word64 (allows p) word64_exact (need_word p)

-- the nodes of a header, which each form includes otherwise
abbrev two16 : ℕ × ℕ → List ℕ
two16 p = word16 p.0 ++ word16 p.1

abbrev fit_nodes : (Party → ℕ → Bool) → Kind → ℕ × ℕ → Bool
fit_nodes has k p = has (sender k) p.0 && has (receiver k) p.1

abbrev IsWord : (Party → ℕ → Bool) → Type 0
IsWord has = (p : Party) (n : ℕ) → has p n ≡ true → is_word16 n ≡ true

abbrev node_of : (Party → ℕ → Bool) → Party → Reader ℕ
node_of has p = checked (has p) word16_at

node_exact : (has : Party → ℕ → Bool) → IsWord has → (p : Party) → Exact (node_of has p) word16 (has p)
node_exact has words p = checked_exact word16_at word16 is_word16 (has p) word16_exact (words p)

both_exact : (has : Party → ℕ → Bool) → IsWord has → (k : Kind) → Exact (seq (node_of has (sender k)) (λ f. node_of has (receiver k))) two16 (fit_nodes has k)
both_exact has words k = pair_exact (node_of has (sender k)) (λ f. node_of has (receiver k)) word16 word16 (has (sender k)) (λ f. has (receiver k))
    (node_exact has words (sender k)) (λ f. node_exact has words (receiver k))

abbrev two64 : ℕ × ℕ → List ℕ
two64 p = word64 p.0 ++ word64 p.1

abbrev fit_ages : Kind → ℕ × ℕ → Bool
fit_ages k p = allows (life_of k) p.0 && allows (epoch_of k) p.1

abbrev fit_marks : Kind → ℕ × ℕ → Bool
fit_marks k p = allows (request_of k) p.0 && allows (stamp_of k) p.1

ages_exact : (k : Kind) → Exact (ages_at k) two64 (fit_ages k)
unfolding ages_at
ages_exact k = pair_exact (needed_at (life_of k)) (λ l. needed_at (epoch_of k)) word64 word64 (allows (life_of k)) (λ l. allows (epoch_of k))
    (need_exact (life_of k)) (λ l. need_exact (epoch_of k))

marks_exact : (k : Kind) → Exact (marks_at k) two64 (fit_marks k)
unfolding marks_at
marks_exact k = pair_exact (needed_at (request_of k)) (λ n. needed_at (stamp_of k)) word64 word64 (allows (request_of k)) (λ n. allows (stamp_of k))
    (need_exact (request_of k)) (λ n. need_exact (stamp_of k))

abbrev Fields : Type 0
Fields = (ℕ × ℕ) × ((ℕ × ℕ) × (ℕ × ℕ))

abbrev header_of : Fields → Header
header_of t = record { from = t.0.0; to = t.0.1; life = t.1.0.0; epoch = t.1.0.1; number = t.1.1.0; stamp = t.1.1.1 }

fields_exact : (k : Kind) (r : Reader (ℕ × ℕ)) (F : ℕ × ℕ → Bool) → Exact r two16 F
    → Exact (made header_of (seq r (λ n. seq (ages_at k) (λ a. marks_at k)))) header (λ h. F (h.from, h.to) && (are_ages k h && are_marks k h))
unfolding header nodes ages marks
fields_exact k r F h = renamed (seq r (λ n. seq (ages_at k) (λ a. marks_at k))) (λ p. two16 p.0 ++ two64 p.1.0 ++ two64 p.1.1)
    (λ p. F p.0 && (fit_ages k p.1.0 && fit_marks k p.1.1))
    header_of (λ h. ((h.from, h.to), ((h.life, h.epoch), (h.number, h.stamp)))) header (λ h. F (h.from, h.to) && (are_ages k h && are_marks k h))
    (triple_exact r (ages_at k) (λ a. marks_at k) two16 two64 two64 F (fit_ages k) (λ a. fit_marks k) h (ages_exact k) (λ a. marks_exact k))
    (λ t e. (refl, e)) (λ h e. (refl, refl, e))

pub first_header_exact : (k : Kind) → Exact (plain.header_at k) header (first_ranges.is_header k)
unfolding plain.header_at plain.nodes_at plain.party_at first_ranges.is_header
first_header_exact k = fields_exact k (plain.nodes_at k) (fit_nodes first.includes k) (both_exact first.includes first_word k)

pub header_exact : (k : Kind) → Exact (header_at k) header (is_header k)
unfolding header_at nodes_at party_at is_header
header_exact k = fields_exact k (nodes_at k) (fit_nodes includes k) (both_exact includes third_word k)

-- ---- the front

pub front_sound : Sound front_at (λ f. two_bytes f.0 ++ header f.1) (λ f. is_header f.0 f.1 ≡ true)
unfolding front_at
front_sound = record {
  takes = λ bytes x fits e.
      let k = bind_ok (kind_at bytes) (λ k. header_at k.0 k.1 >>= λ h. Ok ((k.0, h.0), h.1)) x e in
      let h = bind_ok (header_at k.0.0 k.0.1) (λ h. Ok ((k.0.0, h.0), h.1)) x k.2 in
      let t₁ = kind_sound.takes bytes k.0 fits k.1 in
      let t₂ = (header_exact k.0.0).sound.takes k.0.1 h.0 t₁.0.rest_fits h.1 in
      let both = Takes-then bytes (two_bytes k.0.0) k.0.1 (header h.0.0) h.0.1 t₁.0 t₂.0 in
      let got : (Kind × Header) × List ℕ = ((k.0.0, h.0.0), h.0.1) in
      subst (λ (y : (Kind × Header) × List ℕ). Takes bytes (two_bytes y.0.0 ++ header y.0.1) y.1 × (is_header y.0.0 y.0.1 ≡ true)) (ok_is got x h.2)
      (both, t₂.1);
}

same_ranges : (k : Kind) (h : Header) → is_header (read_as k) h ≡ is_header k h
unfolding is_header
same_ranges kinds.Patch h = refl
same_ranges k h = refl

pub front_read : (k : Kind) (h : Header) (rest : List ℕ) → is_header k h ≡ true → front_at (front k h ++ rest) ≡ Ok ((read_as k, h), rest)
unfolding front_at front
front_read k h rest e =
    ap front_at (append_assoc (two_bytes k) (header h) rest) ∙
    rw (kind_read k (header h ++ rest), (header_exact (read_as k)).again h rest (same_ranges k h ∙ e)) refl
