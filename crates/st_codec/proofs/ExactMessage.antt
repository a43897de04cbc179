-- Messages are read exactly: what is read is spelled so, and what is spelled so is read.
use Rattle.std.proofs.Common.{◌≡◌, ℕ, Bool, true, false, List, [], ◌∷◌, ◌++◌, length, Some, Ok, Err, refl, sym, ap, subst, ◌∙◌, ◌<◌, cond, append_assoc, arith, inl, inr}
use Rattle.std.specs.Prelude.{◌&&◌, ◌==◌, ◌^◌, nat_le, find, ⊤}
use Rattle.std.proofs.lemmas.Bool.{and_parts, and_from, or_cases, eqb-true, ne_eqb, cases_Bool, lt-ltb}
use Rattle.std.proofs.lemmas.List.{append-nil, nil_from_length}
use Rattle.st_codec_fields.specs.declared.fault.Fault.{Fault}
use Rattle.st_codec_fields.specs.declared.fault.Fault.TheVariants as faults
use Rattle.st_messages.specs.declared.kind.Kind.{Kind}
use Rattle.st_messages.specs.declared.kind.Kind.TheVariants as kinds
use Rattle.st_messages.specs.declared.kind.Need.{Need}
use Rattle.st_messages.specs.declared.kind.Need.TheVariants.{Zero, Positive, Any}
use Rattle.st_messages.specs.declared.kind.Party.{Party}
use Rattle.st_messages.specs.declared.kind.Party.TheVariants.{Client, Server, Node, Surroundings}
use Rattle.st_messages.specs.declared.message.Message.{Message}
use Rattle.st_codec.specs.declared.refusal.CodecRefusal.TheVariants as refusals
use Rattle.st_messages.specs.Ranges.{is_word16, is_header, is_body, fits}
use Rattle.st_codec.specs.Grammar.{Spells}
use Rattle.st_messages.specs.Kinds.{between, is_word64, includes, allows, kind_of_body, sender, receiver, life_of, epoch_of, request_of, stamp_of}
use Rattle.st_codec.specs.KindBytes.{version_of, number_of, all_kinds, is_kind, kind_of}
use Rattle.st_codec_fields.specs.Decoder.{◌>>=◌, seq, byte_at, word16_at, word64_at}
use Rattle.st_codec.specs.Decoder.{found, version_at, kind_at, party_at, needed_at, nodes_at, ages_at, marks_at, header_at, body_at, message_at, told, decoded}
use Rattle.st_codec_fields.specs.Spelling.{word16, word64}
use Rattle.st_codec.specs.Spelling.{nodes, ages, marks, header, kind, body, spelling}
use Rattle.st_codec_fields.proofs.Exact.{IsBytes, Takes-then, Exact, Sound, bind_ok, guard_ok, ok_is, failed, pair_exact, triple_exact, checked_exact, renamed, byte_exact}
use Rattle.st_codec_fields.proofs.ExactFields.{word16_exact, word64_exact, at_most}
use Rattle.st_codec.proofs.ExactBody.{cells, found_ok, body_sound, body_again}

-- ---- the two bytes of the kind

find_holds : {X : Type 0} (p : X → Bool) (xs : List X) (x : X) → find p xs ≡ Some x → p x ≡ true
find_holds p [] x e = absurd cc
find_holds {X} p (y ∷ ys) x e =
    elim (cases_Bool (p y)) [
      | inl t ↦ let is : Some y ≡ Some x = rw t at e in
          let y-is : y ≡ x = cc in
          subst (λ (z : X). p z ≡ true) y-is t
      | inr f ↦ find_holds p ys x (rw f at e)
    ]

kind_bytes : (version number : ℕ) (k : Kind) → kind_of version number ≡ Some k → (version_of k ≡ version) × (number_of k ≡ number)
unfolding kind_of
kind_bytes version number k e =
    let parts = and_parts (version_of k == version) (number_of k == number) (find_holds (is_kind version number) all_kinds k e) in
    (eqb-true _ _ parts.0, eqb-true _ _ parts.1)

kind_again : (k : Kind) → kind_of (version_of k) (number_of k) ≡ Some k
unfolding kind_of
kind_again kinds.Hello = refl
kind_again kinds.KeepAlive = refl
kind_again kinds.Acquire = refl
kind_again kinds.Released = refl
kind_again kinds.Map = refl
kind_again kinds.Allocate = refl
kind_again kinds.Cut = refl
kind_again kinds.Name = refl
kind_again kinds.Reassert = refl
kind_again kinds.DemandSeen = refl
kind_again kinds.Welcome = refl
kind_again kinds.Ack = refl
kind_again kinds.Nack = refl
kind_again kinds.Granted = refl
kind_again kinds.Queued = refl
kind_again kinds.Demand = refl
kind_again kinds.Extents = refl
kind_again kinds.Named = refl
kind_again kinds.Reasserted = refl
kind_again kinds.Tick = refl
kind_again kinds.App = refl
kind_again kinds.Patch = refl
kind_again kinds.AppDone = refl
kind_again kinds.Submit = refl
kind_again kinds.Done = refl

version_is : (k : Kind) → between 1 2 (version_of k) ≡ true
version_is kinds.Patch = refl
version_is k = refl

kind_sound : Sound kind_at kind (λ k. ⊤)
unfolding kind_at version_at kind
kind_sound = record {
  takes = λ bytes x fits e.
      let v = bind_ok (version_at bytes) (λ version. byte_at version.1 >>= λ number. found faults.Kind (kind_of version.0 number.0) number.1) x e in
      let n = bind_ok (byte_at v.0.1) (λ number. found faults.Kind (kind_of v.0.0 number.0) number.1) x v.2 in
      let f = found_ok faults.Kind (kind_of v.0.0 n.0.0) n.0.1 x n.2 in
      let b = bind_ok (byte_at bytes) (λ n. cond (between 1 2 n.0) (Ok n) (Err faults.Version)) v.0 v.1 in
      let g = guard_ok (between 1 2 b.0.0) faults.Version b.0 v.0 b.2 in
      let first = byte_exact.sound.takes bytes v.0 fits (b.1 ∙ ap (λ (y : ℕ × List ℕ). Ok y) g.1) in
      let second = byte_exact.sound.takes v.0.1 n.0 first.0.rest_fits n.1 in
      let same = kind_bytes v.0.0 n.0.0 x.0 f.0 in
      let both = Takes-then bytes (v.0.0 ∷ []) v.0.1 (n.0.0 ∷ []) n.0.1 first.0 second.0 in
      (record { parts = both.parts ∙ cells v.0.0 (version_of x.0) (n.0.0 ∷ n.0.1) (number_of x.0 ∷ x.1) same.0 (cells n.0.0 (number_of x.0) n.0.1 x.1 same.1 f.1); rest_fits = subst IsBytes f.1 both.rest_fits }, tt);
}

kind_read : (k : Kind) (rest : List ℕ) → kind_at (kind k ++ rest) ≡ Ok (k, rest)
unfolding kind_at version_at kind
kind_read k rest = rw (version_is k, kind_again k) refl

-- ---- the header

party_word : (p : Party) (n : ℕ) → includes p n ≡ true → is_word16 n ≡ true
party_word Client n e = lt-ltb n (2 ^ 16) (omega (arith, at_most 1 16 n e))
party_word Server n e = lt-ltb n (2 ^ 16) (omega (arith, at_most 32769 32772 n e))
party_word Node n e = elim (or_cases (between 1 16 n) (between 32769 32772 n) e) [
  | inl h ↦ lt-ltb n (2 ^ 16) (omega (arith, at_most 1 16 n h))
  | inr h ↦ lt-ltb n (2 ^ 16) (omega (arith, at_most 32769 32772 n h))
]
party_word Surroundings n e = lt-ltb n (2 ^ 16) (omega (arith, eqb-true n 0 e))

need_word : (p : Need) (n : ℕ) → allows p n ≡ true → is_word64 n ≡ true
need_word Zero n e = lt-ltb n (2 ^ 64) (omega (arith, eqb-true n 0 e))
need_word Positive n e = (and_parts (nat_le 1 n) (is_word64 n) e).1
need_word Any n e = e

party_exact : (p : Party) → Exact (party_at p) word16 (includes p)
unfolding party_at
party_exact p = checked_exact word16_at word16 is_word16 (includes p) word16_exact (party_word p)

need_exact : (p : Need) → Exact (needed_at p) word64 (allows p)
unfolding needed_at
need_exact p = checked_exact word64_at word64 is_word64 (allows p) word64_exact (need_word p)

abbrev two16 : ℕ × ℕ → List ℕ
two16 p = word16 p.0 ++ word16 p.1

abbrev two64 : ℕ × ℕ → List ℕ
two64 p = word64 p.0 ++ word64 p.1

abbrev fit_nodes : Kind → ℕ × ℕ → Bool
fit_nodes k p = includes (sender k) p.0 && includes (receiver k) p.1

abbrev fit_ages : Kind → ℕ × ℕ → Bool
fit_ages k p = allows (life_of k) p.0 && allows (epoch_of k) p.1

abbrev fit_marks : Kind → ℕ × ℕ → Bool
fit_marks k p = allows (request_of k) p.0 && allows (stamp_of k) p.1

nodes_exact : (k : Kind) → Exact (nodes_at k) two16 (fit_nodes k)
unfolding nodes_at
nodes_exact k = pair_exact (party_at (sender k)) (λ f. party_at (receiver k)) word16 word16 (includes (sender k)) (λ f. includes (receiver k)) (party_exact (sender k)) (λ f. party_exact (receiver k))

ages_exact : (k : Kind) → Exact (ages_at k) two64 (fit_ages k)
unfolding ages_at
ages_exact k = pair_exact (needed_at (life_of k)) (λ l. needed_at (epoch_of k)) word64 word64 (allows (life_of k)) (λ l. allows (epoch_of k)) (need_exact (life_of k)) (λ l. need_exact (epoch_of k))

marks_exact : (k : Kind) → Exact (marks_at k) two64 (fit_marks k)
unfolding marks_at
marks_exact k = pair_exact (needed_at (request_of k)) (λ n. needed_at (stamp_of k)) word64 word64 (allows (request_of k)) (λ n. allows (stamp_of k)) (need_exact (request_of k)) (λ n. need_exact (stamp_of k))

header_exact : (k : Kind) → Exact (header_at k) header (is_header k)
unfolding header_at header nodes ages marks is_header
header_exact k = renamed (seq (nodes_at k) (λ n. seq (ages_at k) (λ a. marks_at k))) (λ p. two16 p.0 ++ two64 p.1.0 ++ two64 p.1.1) (λ p. fit_nodes k p.0 && (fit_ages k p.1.0 && fit_marks k p.1.1))
    (λ t. record { from = t.0.0; to = t.0.1; life = t.1.0.0; epoch = t.1.0.1; number = t.1.1.0; stamp = t.1.1.1 }) (λ h. ((h.from, h.to), ((h.life, h.epoch), (h.number, h.stamp)))) header (is_header k)
    (triple_exact (nodes_at k) (ages_at k) (λ a. marks_at k) two16 two64 two64 (fit_nodes k) (fit_ages k) (λ a. fit_marks k) (nodes_exact k) (ages_exact k) (λ a. marks_exact k))
    (λ t e. (refl, e)) (λ h e. (refl, refl, e))

-- ---- the message

ended : (bytes text rest : List ℕ) → bytes ≡ text ++ rest → rest ≡ [] → bytes ≡ text
ended bytes text rest parts none = parts ∙ ap (λ (r : List ℕ). text ++ r) none ∙ append-nil text

pub message_takes : (bytes : List ℕ) (m : Message) → IsBytes bytes → message_at bytes ≡ Ok m → Spells bytes m
unfolding message_at spelling fits
message_takes bytes m ok e =
    let k = bind_ok (kind_at bytes) (λ k. header_at k.0 k.1 >>= λ h. body_at k.0 h.1 >>= λ b. cond (length b.1 == 0) (Ok (record { header = h.0; body = b.0 })) (Err faults.Long)) m e in
    let h = bind_ok (header_at k.0.0 k.0.1) (λ h. body_at k.0.0 h.1 >>= λ b. cond (length b.1 == 0) (Ok (record { header = h.0; body = b.0 })) (Err faults.Long)) m k.2 in
    let b = bind_ok (body_at k.0.0 h.0.1) (λ b. cond (length b.1 == 0) (Ok (record { header = h.0.0; body = b.0 })) (Err faults.Long)) m h.2 in
    let got : Message = record { header = h.0.0; body = b.0.0 } in
    let g = guard_ok (length b.0.1 == 0) faults.Long got m b.2 in
    let t₀ = kind_sound.takes bytes k.0 ok k.1 in
    let t₁ = (header_exact k.0.0).sound.takes k.0.1 h.0 t₀.0.rest_fits h.1 in
    let t₂ = (body_sound k.0.0).takes h.0.1 b.0 t₁.0.rest_fits b.1 in
    let none : b.0.1 ≡ [] = nil_from_length b.0.1 (eqb-true _ _ g.0) in
    let front = Takes-then bytes (kind k.0.0) k.0.1 (header h.0.0) h.0.1 t₀.0 t₁.0 in
    let both = Takes-then bytes (kind k.0.0 ++ header h.0.0) h.0.1 (body b.0.0) b.0.1 front t₂.0 in
    let same : kind_of_body b.0.0 ≡ k.0.0 = t₂.1.1 in
    let text : bytes ≡ kind k.0.0 ++ header h.0.0 ++ body b.0.0 = ended bytes (kind k.0.0 ++ header h.0.0 ++ body b.0.0) b.0.1 both.parts none in
    let spelled : bytes ≡ spelling got = subst (λ (q : Kind). bytes ≡ kind q ++ header h.0.0 ++ body b.0.0) (sym same) text in
    let within : fits got ≡ true = and_from (is_header (kind_of_body b.0.0) h.0.0) (is_body b.0.0) (subst (λ (q : Kind). is_header q h.0.0 ≡ true) (sym same) t₁.1) t₂.1.0 in
    subst (Spells bytes) g.1 (record { text = spelled; ranges = within })

pub message_again : (m : Message) → fits m ≡ true → message_at (spelling m) ≡ Ok m
unfolding message_at spelling fits
message_again m e =
    let k = kind_of_body m.body in
    let parts = and_parts (is_header k m.header) (is_body m.body) e in
    let regrouped : kind k ++ header m.header ++ body m.body ≡ kind k ++ (header m.header ++ (body m.body ++ [])) = append_assoc (kind k) (header m.header) (body m.body) ∙ ap (λ (w : List ℕ). kind k ++ (header m.header ++ w)) (sym (append-nil (body m.body))) in
    ap message_at regrouped ∙ rw (kind_read k (header m.header ++ (body m.body ++ [])), (header_exact k).again m.header (body m.body ++ []) parts.0, body_again m.body [] parts.1) refl

pub spelled_once : (bytes : List ℕ) (m n : Message) → Spells bytes m → Spells bytes n → m ≡ n
spelled_once bytes m n p q =
    let first : message_at bytes ≡ Ok m = ap message_at p.text ∙ message_again m p.ranges in
    let second : message_at bytes ≡ Ok n = ap message_at q.text ∙ message_again n q.ranges in
    ok_is m n (sym first ∙ second)

pub decoded_again : (bytes : List ℕ) (m : Message) → Spells bytes m → decoded bytes ≡ Ok m
unfolding decoded
decoded_again bytes m p = ap (told (length bytes)) (ap message_at p.text ∙ message_again m p.ranges)

pub only_this : (bytes : List ℕ) (x m : Message) → message_at bytes ≡ Ok x → Spells bytes m → x ≡ m
only_this bytes x m e p = ok_is x m (sym e ∙ (ap message_at p.text ∙ message_again m p.ranges))

pub no_fault : (bytes : List ℕ) (d : Fault) (m : Message) → message_at bytes ≡ Err d → Spells bytes m → ⊥
no_fault bytes d m e p = failed ⊥ d m (sym e ∙ (ap message_at p.text ∙ message_again m p.ranges))

-- bytes that follow a message
pub longer : (m : Message) (after : List ℕ) → fits m ≡ true → 0 < length after → decoded (spelling m ++ after) ≡ Err refusals.Long
unfolding decoded message_at spelling fits
longer m after e more =
    let k = kind_of_body m.body in
    let parts = and_parts (is_header k m.header) (is_body m.body) e in
    let regrouped : (kind k ++ header m.header ++ body m.body) ++ after ≡ kind k ++ (header m.header ++ (body m.body ++ after)) = append_assoc (kind k ++ header m.header) (body m.body) after ∙ append_assoc (kind k) (header m.header) (body m.body ++ after) in
    let some : (length after == 0) ≡ false = ne_eqb (length after) 0 (λ h. omega arith) in
    let read : message_at (kind k ++ (header m.header ++ (body m.body ++ after))) ≡ Err faults.Long = rw (kind_read k (header m.header ++ (body m.body ++ after)), (header_exact k).again m.header (body m.body ++ after) parts.0, body_again m.body after parts.1, some) refl in
    ap (told (length ((kind k ++ header m.header ++ body m.body) ++ after))) (ap message_at regrouped ∙ read)
