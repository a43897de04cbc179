-- How an area is read, record after record.
use Rattle.std.proofs.Common.{◌≡◌, ℕ, ◌+◌, ◌^◌, ◌<◌, ◌≤◌, List, [], ◌∷◌, ◌++◌, length, refl, sym, ap, ◌∙◌, subst, append_assoc, append-nil, arith}
use Rattle.std.proofs.lemmas.List.{length-append}
use Rattle.st_crc32c.specs.Crc.{crc32c}
use Rattle.st_journal_file.specs.Layout.{CLOSED, OPEN, IsArea, all_opened, front, opened, part, word32}
use Rattle.st_journal_file.proofs.Groups.{all_opened-append}
use Rattle.st_journal_bytes.specs.Areas.{HasNoSnapshot, HasRecords, IsRead, IsUnread, StopsAt}
use Rattle.st_journal_bytes.specs.Plain.{plain}
use Rattle.st_journal_bytes.specs.Reading.{part_at}
use Rattle.st_journal_bytes.specs.declared.area.AreaEnd.{AreaEnd}
use Rattle.st_journal_bytes.proofs.Numbers.{length-word32}
use Rattle.st_journal_bytes.proofs.Parts.{pair_once, part_is, part_reads}

pub length-part : (a : List ℕ) → length (part plain a) ≡ length a + 12
length-part a =
    let whole : length (part plain a ++ []) ≡ length (word32 (length a) ++ (word32 (crc32c (word32 (length a))) ++ (a ++ (word32 (crc32c a) ++ [])))) = ap length (part_is a []) in
    omega (arith, simp (length-append, length-word32) at whole)

-- parts whose lengths a word can hold are the same if the bytes are
pub part_once : (a b r q : List ℕ) → length a < 2 ^ 32 → length b < 2 ^ 32 → part plain a ++ r ≡ part plain b ++ q → (a ≡ b) × (r ≡ q)
part_once a b r q short shorter e = pair_once (a, r) (b, q) (sym (part_reads a r short) ∙ (ap part_at e ∙ part_reads b q shorter))

-- bytes that were read as these records, this many of them in this many bytes, and those that are left
pub record IsReadTo (bytes rest : List ℕ) (place number : ℕ) : Type 0 where
  pub records : List (List ℕ)
  pub parts : bytes ≡ all_opened plain records ++ rest
  pub gate : place ≡ length (all_opened plain records)
  pub count : number ≡ length records
  pub few : number ≤ place

pub opened_size : (x rest bytes : List ℕ) → bytes ≡ opened plain x ++ rest → length bytes ≡ length rest + length x + 13
opened_size x rest bytes e = omega (arith, ap length e, length-append (part plain x) rest, length-part x)

pub read_more : (bytes rest x more : List ℕ) (gate count n : ℕ) → IsReadTo bytes rest gate count → rest ≡ opened plain x ++ more → n + length more ≡ gate + length rest → IsReadTo bytes more n (count + 1)
read_more bytes rest x more gate count n i e size =
    let spelled : all_opened plain (i.records ++ x ∷ []) ≡ all_opened plain i.records ++ opened plain x =
    all_opened-append plain i.records (x ∷ []) ∙ ap (λ (l : List ℕ). all_opened plain i.records ++ l) (append-nil (opened plain x)) in
    record {
      records = i.records ++ x ∷ [];
      parts =
          i.parts ∙ (ap (λ (l : List ℕ). all_opened plain i.records ++ l) e ∙ (sym (append_assoc (all_opened plain i.records) (opened plain x) more) ∙ ap (λ (l : List ℕ). l ++ more) (sym spelled)));
      gate = omega (arith, i.gate, size, opened_size x more rest e, ap length spelled, length-append (all_opened plain i.records) (opened plain x), length-part x);
      count = omega (arith, i.count, length-append i.records (x ∷ []));
      few = omega (arith, i.few, size, opened_size x more rest e);
    }

pub area_read : (bytes snapshot rest : List ℕ) (n : ℕ) (e whole : AreaEnd) → bytes ≡ part plain snapshot ++ rest → HasRecords rest e → n + length rest ≡ length bytes → whole.gate ≡ n + e.gate → whole.records ≡ e.records → IsRead bytes whole
area_read bytes snapshot rest n e whole p h size gate count = record {
  snapshot = snapshot;
  records = h.records;
  area = record {
    rest = h.rest;
    parts = p ∙ (ap (λ (l : List ℕ). part plain snapshot ++ l) h.parts ∙ sym (append_assoc (part plain snapshot) (all_opened plain h.records) (CLOSED ∷ h.rest)));
  };
  gate = omega (arith, gate, h.gate, size, ap length p, length-append (part plain snapshot) rest, length-append (part plain snapshot) (all_opened plain h.records));
  count = count ∙ h.count;
}

-- What is damaged is not an area.

closed_open : CLOSED ≡ OPEN → ⊥
closed_open e = let g : 0 ≡ 255 = e in omega (arith, g)

head_is : (a b : ℕ) (xs ys : List ℕ) → a ∷ xs ≡ b ∷ ys → a ≡ b
head_is a b xs ys e = cc

tail_is : (a b : ℕ) (xs ys : List ℕ) → a ∷ xs ≡ b ∷ ys → xs ≡ ys
tail_is a b xs ys e = cc

opened_is : (x : List ℕ) (xs : List (List ℕ)) (r : List ℕ) → all_opened plain (x ∷ xs) ++ r ≡ OPEN ∷ (part plain x ++ (all_opened plain xs ++ r))
opened_is x xs r = append_assoc (opened plain x) (all_opened plain xs) r

record_short : (x : List ℕ) (xs : List (List ℕ)) (r : List ℕ) → length (all_opened plain (x ∷ xs) ++ r) < 2 ^ 32 → (length x < 2 ^ 32) × (length (all_opened plain xs ++ r) < 2 ^ 32)
record_short x xs r few =
    let size = ap length (opened_is x xs r) in
    let parts = length-append (part plain x) (all_opened plain xs ++ r) in
    (omega (arith, few, size, parts, length-part x), omega (arith, few, size, parts, length-part x))

no_records : (xs ys : List (List ℕ)) (r q : List ℕ) → IsUnread r → length (all_opened plain xs ++ r) < 2 ^ 32 → all_opened plain xs ++ r ≡ all_opened plain ys ++ CLOSED ∷ q → ⊥
no_records [] [] r q none few e = none.closed (record { rest = q; parts = e })
no_records [] (y ∷ ys) r q none few e =
    none.open_so y (all_opened plain ys ++ CLOSED ∷ q) (record_short y ys (CLOSED ∷ q) (subst (λ (l : List ℕ). length l < 2 ^ 32) e few)).0 (e ∙ opened_is y ys (CLOSED ∷ q))
no_records (x ∷ xs) [] r q none few e =
    closed_open (sym (head_is OPEN CLOSED (part plain x ++ (all_opened plain xs ++ r)) q (sym (opened_is x xs r) ∙ e)))
no_records (x ∷ xs) (y ∷ ys) r q none few e =
    let same = tail_is OPEN OPEN (part plain x ++ (all_opened plain xs ++ r)) (part plain y ++ (all_opened plain ys ++ CLOSED ∷ q)) (sym (opened_is x xs r) ∙ (e ∙ opened_is y ys (CLOSED ∷ q))) in
    let first = record_short x xs r few in
    let second = record_short y ys (CLOSED ∷ q) (subst (λ (l : List ℕ). length l < 2 ^ 32) e few) in
    no_records xs ys r q none first.1 (part_once x y (all_opened plain xs ++ r) (all_opened plain ys ++ CLOSED ∷ q) first.0 second.0 same).1

snapshot_short : (s r : List ℕ) → length (part plain s ++ r) < 2 ^ 32 → (length s < 2 ^ 32) × (length r < 2 ^ 32)
snapshot_short s r few =
    let parts = length-append (part plain s) r in
    (omega (arith, few, parts, length-part s), omega (arith, few, parts, length-part s))

area_is : (bytes s : List ℕ) (xs : List (List ℕ)) → (a : IsArea plain bytes s xs) → bytes ≡ part plain s ++ (all_opened plain xs ++ CLOSED ∷ a.rest)
area_is bytes s xs a = a.parts ∙ append_assoc (part plain s) (all_opened plain xs) (CLOSED ∷ a.rest)

pub no_snapshot : (bytes s : List ℕ) (xs : List (List ℕ)) → length bytes < 2 ^ 32 → HasNoSnapshot bytes → IsArea plain bytes s xs → ⊥
no_snapshot bytes s xs few none a =
    let e : bytes ≡ part plain s ++ (all_opened plain xs ++ CLOSED ∷ a.rest) = area_is bytes s xs a in
    none s (all_opened plain xs ++ CLOSED ∷ a.rest) (snapshot_short s (all_opened plain xs ++ CLOSED ∷ a.rest) (subst (λ (l : List ℕ). length l < 2 ^ 32) e few)).0 e

pub no_area : (bytes t rest s : List ℕ) (at : ℕ) (xs : List (List ℕ)) → length bytes < 2 ^ 32 → bytes ≡ part plain t ++ rest → StopsAt rest at → IsArea plain bytes s xs → ⊥
no_area bytes t rest s at xs few p stop a =
    let e : bytes ≡ part plain s ++ (all_opened plain xs ++ CLOSED ∷ a.rest) = area_is bytes s xs a in
    let first = snapshot_short t rest (subst (λ (l : List ℕ). length l < 2 ^ 32) p few) in
    let second = snapshot_short s (all_opened plain xs ++ CLOSED ∷ a.rest) (subst (λ (l : List ℕ). length l < 2 ^ 32) e few) in
    let same = part_once t s rest (all_opened plain xs ++ CLOSED ∷ a.rest) first.0 second.0 (sym p ∙ e) in
    no_records stop.records xs stop.rest a.rest stop.none (subst (λ (l : List ℕ). length l < 2 ^ 32) stop.parts first.1) (sym stop.parts ∙ same.1)

-- An area has one snapshot, and one list of records.

records_once : (xs ys : List (List ℕ)) (r q : List ℕ) → length (all_opened plain xs ++ CLOSED ∷ r) < 2 ^ 32 → all_opened plain xs ++ CLOSED ∷ r ≡ all_opened plain ys ++ CLOSED ∷ q → xs ≡ ys
records_once [] [] r q few e = refl
records_once [] (y ∷ ys) r q few e =
    absurd (closed_open (head_is CLOSED OPEN r (part plain y ++ (all_opened plain ys ++ CLOSED ∷ q)) (e ∙ opened_is y ys (CLOSED ∷ q))))
records_once (x ∷ xs) [] r q few e =
    absurd (closed_open (sym (head_is OPEN CLOSED (part plain x ++ (all_opened plain xs ++ CLOSED ∷ r)) q (sym (opened_is x xs (CLOSED ∷ r)) ∙ e))))
records_once (x ∷ xs) (y ∷ ys) r q few e =
    let same = tail_is OPEN OPEN (part plain x ++ (all_opened plain xs ++ CLOSED ∷ r)) (part plain y ++ (all_opened plain ys ++ CLOSED ∷ q)) (sym (opened_is x xs (CLOSED ∷ r)) ∙ (e ∙ opened_is y ys (CLOSED ∷ q))) in
    let first = record_short x xs (CLOSED ∷ r) few in
    let second = record_short y ys (CLOSED ∷ q) (subst (λ (l : List ℕ). length l < 2 ^ 32) e few) in
    let one = part_once x y (all_opened plain xs ++ CLOSED ∷ r) (all_opened plain ys ++ CLOSED ∷ q) first.0 second.0 same in
    let head : x ≡ y = one.0 in
    let tail : xs ≡ ys = records_once xs ys r q first.1 one.1 in
    cc

pub area_once : (bytes s t : List ℕ) (xs ys : List (List ℕ)) → length bytes < 2 ^ 32 → IsArea plain bytes s xs → IsArea plain bytes t ys → (s ≡ t) × (xs ≡ ys)
area_once bytes s t xs ys few a b =
    let e : bytes ≡ part plain s ++ (all_opened plain xs ++ CLOSED ∷ a.rest) = area_is bytes s xs a in
    let g : bytes ≡ part plain t ++ (all_opened plain ys ++ CLOSED ∷ b.rest) = area_is bytes t ys b in
    let first = snapshot_short s (all_opened plain xs ++ CLOSED ∷ a.rest) (subst (λ (l : List ℕ). length l < 2 ^ 32) e few) in
    let second = snapshot_short t (all_opened plain ys ++ CLOSED ∷ b.rest) (subst (λ (l : List ℕ). length l < 2 ^ 32) g few) in
    let one = part_once s t (all_opened plain xs ++ CLOSED ∷ a.rest) (all_opened plain ys ++ CLOSED ∷ b.rest) first.0 second.0 (sym e ∙ g) in
    (one.0, records_once xs ys a.rest b.rest first.1 one.1)

pub gate_once : (bytes s : List ℕ) (xs : List (List ℕ)) (e : AreaEnd) → length bytes < 2 ^ 32 → IsRead bytes e → IsArea plain bytes s xs → e.gate ≡ length (front plain s xs)
gate_once bytes s xs e few r a =
    let one = area_once bytes r.snapshot s r.records xs few r.area a in
    r.gate ∙ (ap (λ (t : List ℕ). length (front plain t r.records)) one.0 ∙ ap (λ ys. length (front plain s ys)) one.1)
