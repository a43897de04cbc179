-- A header is read exactly.
use Rattle.std.proofs.Common.{◌≡◌, ◌≢◌, ℕ, ◌^◌, ◌<◌, List, ◌++◌, length, Some, None, refl, sym, ap, ◌∙◌, subst, append_assoc, arith}
use Rattle.st_base.specs.declared.config.Config.{Config}
use Rattle.st_journal_file.specs.Layout.{part, word32}
use Rattle.st_journal_bytes.specs.Headers.{MAGIC, VERSION, HasVersion, HeaderFits, IsHeaded, body, header, identity, settings}
use Rattle.st_journal_bytes.specs.Plain.{plain}
use Rattle.st_journal_bytes.specs.Reading.{after_front, word32_at}
use Rattle.st_journal_bytes.specs.Words.{word16, word64}
use Rattle.st_journal_bytes.specs.declared.header.Header.{Header}
use Rattle.st_journal_bytes.proofs.Numbers.{IsBytes, IsBytes-drop}
use Rattle.st_journal_bytes.proofs.Parts.{front_reads, front_rest, front_takes, pair_once, word32_reads, word32_small, word32_takes}
use Rattle.st_journal_bytes.proofs.Scans.{length-part, part_once}

-- over plain bytes
regroup : (o a b c d e f g h i : List ℕ) →
    ((((((((o ++ a) ++ b) ++ c) ++ d) ++ e) ++ f) ++ g) ++ h) ++ i ≡ o ++ (a ++ (b ++ (c ++ (d ++ (e ++ (f ++ (g ++ (h ++ i))))))))
regroup o a b c d e f g h i = simp append_assoc

-- the settings, one after another
pub settings_in_turn : (o : List ℕ) (c : Config) →
    ((((((((o ++ word64 c.lease) ++ word64 c.renew) ++ word64 c.quiesce) ++ word64 c.flush) ++ word64 c.demand) ++ word64 c.retry) ++ word64 c.num) ++ word64 c.den) ++ word64 c.grain ≡ o ++ settings c
unfolding settings
settings_in_turn o c =
    regroup o (word64 c.lease) (word64 c.renew) (word64 c.quiesce) (word64 c.flush) (word64 c.demand) (word64 c.retry) (word64 c.num) (word64 c.den) (word64 c.grain)

pub length-body : (h : Header) → length (body h) ≡ 86
unfolding body identity settings word16 word32 word64
length-body h = refl

pub header_is : (h : Header) (r : List ℕ) → header h ++ r ≡ MAGIC ++ (word32 VERSION ++ (part plain (body h) ++ r))
unfolding header
header_is h r = append_assoc MAGIC (word32 VERSION ++ part plain (body h)) r ∙
    ap (λ (l : List ℕ). MAGIC ++ l) (append_assoc (word32 VERSION) (part plain (body h)) r)

pub length-header : (h : Header) → length (header h) ≡ 110
unfolding header word32
length-header h = omega (arith, length-part (body h), length-body h)

-- what follows the text is known
behind_magic : (bytes r q : List ℕ) → after_front MAGIC bytes ≡ Some r → bytes ≡ MAGIC ++ q → r ≡ q
behind_magic bytes r q e f =
    let known : after_front MAGIC bytes ≡ Some q = ap (after_front MAGIC) f ∙ front_reads MAGIC q in
    cc

-- and what follows the version
behind_version : (bytes r q : List ℕ) (h : Header) → after_front MAGIC bytes ≡ Some r → bytes ≡ header h ++ q → r ≡ word32 VERSION ++ (part plain (body h) ++ q)
behind_version bytes r q h e f = behind_magic bytes r (word32 VERSION ++ (part plain (body h) ++ q)) e (f ∙ header_is h q)

behind_fits : (bytes r : List ℕ) → IsBytes bytes → after_front MAGIC bytes ≡ Some r → IsBytes r
behind_fits bytes r fits e = subst (λ (l : List ℕ). IsBytes l) (front_rest MAGIC bytes r e) (IsBytes-drop 8 bytes fits)

pub no_number : (bytes r : List ℕ) (h : Header) → after_front MAGIC bytes ≡ Some r → word32_at r ≡ None → IsHeaded bytes h → ⊥
no_number bytes r h e n i =
    let is : word32_at r ≡ Some (VERSION, part plain (body h) ++ i.rest) =
    ap word32_at (behind_version bytes r i.rest h e i.parts) ∙ word32_reads VERSION (part plain (body h) ++ i.rest) (omega arith) in
    absurd cc

pub has_version : (bytes r q : List ℕ) (v : ℕ) → IsBytes bytes → after_front MAGIC bytes ≡ Some r → word32_at r ≡ Some (v, q) → HasVersion bytes v
has_version bytes r q v fits e n = record {
  small = word32_small r (v, q) (behind_fits bytes r fits e) n;
  rest = q;
  parts = front_takes MAGIC bytes r e ∙ ap (λ (l : List ℕ). MAGIC ++ l) (word32_takes r (v, q) (behind_fits bytes r fits e) n).0;
}

-- after the right version comes the header's part
behind_number : (bytes r q : List ℕ) (v : ℕ) (h : Header) → after_front MAGIC bytes ≡ Some r → word32_at r ≡ Some (v, q) → (i : IsHeaded bytes h) →
    q ≡ part plain (body h) ++ i.rest
behind_number bytes r q v h e n i =
    let is : word32_at r ≡ Some (VERSION, part plain (body h) ++ i.rest) =
    ap word32_at (behind_version bytes r i.rest h e i.parts) ∙ word32_reads VERSION (part plain (body h) ++ i.rest) (omega arith) in
    (pair_once (v, q) (VERSION, part plain (body h) ++ i.rest) (sym n ∙ is)).1

pub no_part : (bytes r q : List ℕ) (v : ℕ) (h : Header) → after_front MAGIC bytes ≡ Some r → word32_at r ≡ Some (v, q)
    → ((b rest : List ℕ) → length b < 2 ^ 32 → q ≡ part plain b ++ rest → ⊥) → IsHeaded bytes h → ⊥
no_part bytes r q v h e n none i = none (body h) i.rest (omega (arith, length-body h)) (behind_number bytes r q v h e n i)

pub no_body : (bytes r q b rest : List ℕ) (v : ℕ) (h : Header) → after_front MAGIC bytes ≡ Some r → word32_at r ≡ Some (v, q) → q ≡ part plain b ++ rest →
    length b < 2 ^ 32 → length b ≢ 86
    → IsHeaded bytes h → ⊥
no_body bytes r q b rest v h e n p short other i =
    let same = part_once b (body h) rest i.rest short (omega (arith, length-body h)) (sym p ∙ behind_number bytes r q v h e n i) in
    other (ap length same.0 ∙ length-body h)

pub is_headed : (bytes r q b rest : List ℕ) (v : ℕ) (h : Header) → HeaderFits h → IsBytes bytes → after_front MAGIC bytes ≡ Some r → word32_at r ≡ Some (v, q) →
    v ≡ VERSION → q ≡ part plain b ++ rest → b ≡ body h → IsHeaded bytes h
is_headed bytes r q b rest v h numbers fits e n version p same =
    record {
      fits = numbers;
      rest = rest;
      parts =
          front_takes MAGIC bytes r e ∙
          (ap (λ (l : List ℕ). MAGIC ++ l)
          ((word32_takes r (v, q) (behind_fits bytes r fits e) n).0 ∙
          (ap (λ (m : ℕ). word32 m ++ q) version ∙ ap (λ (l : List ℕ). word32 VERSION ++ l) (p ∙ ap (λ (l : List ℕ). part plain l ++ rest) same)))
          ∙ sym (header_is h rest));
    }
