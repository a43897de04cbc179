-- The moments of an area's records.
use Rattle.std.proofs.Common.{◌≡◌, ℕ, ◌+◌, ◌^◌, ◌<◌, Bool, true, false, cond, ltb, List, [], ◌∷◌, ◌++◌, length, take, Option, Some, None, Result, Ok, Err, refl, sym, ap, ◌∙◌, append_assoc, append-nil, arith}
use Rattle.std.specs.Prelude.{IfOk, OnErr, map, option_map}
use Rattle.std.specs.Int.{w64, from_be_bytes}
use Rattle.std.proofs.lemmas.Bool.{le-ltb}
use Rattle.std.proofs.lemmas.List.{length-append, take_at}
use Rattle.st_journal_file.specs.Layout.{CLOSED, OPEN, Format, IsArea, after_changes, all_opened, opened, part, word32}
use Rattle.st_journal_file.proofs.Groups.{all_opened-append}
use Rattle.st_journal_bytes.specs.Moments.{Dated, HasMoment, HaveMoment, after_dated, after_record, after_records, apply_dated, dated, dated_bytes, moment_of}
use Rattle.st_journal_bytes.specs.Plain.{HasSum, plain}
use Rattle.st_journal_bytes.specs.Words.{word64}
use Rattle.st_journal_bytes.specs.declared.area.Damaged.{Damaged}
use Rattle.st_journal_bytes.proofs.Numbers.{length-word64, word64_again}
use Rattle.st_journal_bytes.proofs.Scans.{area_once, length-part, opened_size}

-- one more record

after_records-last : (o : Option ℕ) (xs : List (List ℕ)) (x : List ℕ) → after_records o (xs ++ x ∷ []) ≡ after_record (after_records o xs) x
after_records-last o [] x = refl
after_records-last o (y ∷ ys) x = after_records-last (after_record o y) ys x

-- bytes that were read as records in this many bytes, the moment of the last one, and the bytes that are left
pub record AreDatedTo (bytes rest : List ℕ) (place : ℕ) (first last : Option ℕ) : Type 0 where
  pub records : List (List ℕ)
  pub parts : bytes ≡ all_opened plain records ++ rest
  pub gate : place ≡ length (all_opened plain records)
  pub moment : last ≡ after_records first records

pub dated_more : (bytes rest x more : List ℕ) (gate n : ℕ) (first last next : Option ℕ) → AreDatedTo bytes rest gate first last →
    rest ≡ opened plain x ++ more → n + length more ≡ gate + length rest
    → next ≡ after_record last x → AreDatedTo bytes more n first next
dated_more bytes rest x more gate n first last next i e size step =
    let spelled : all_opened plain (i.records ++ x ∷ []) ≡ all_opened plain i.records ++ opened plain x =
    all_opened-append plain i.records (x ∷ []) ∙ ap (λ (l : List ℕ). all_opened plain i.records ++ l) (append-nil (opened plain x)) in
    record {
      records = i.records ++ x ∷ [];
      parts =
          i.parts ∙
          (ap (λ (l : List ℕ). all_opened plain i.records ++ l) e ∙
          (sym (append_assoc (all_opened plain i.records) (opened plain x) more) ∙ ap (λ (l : List ℕ). l ++ more) (sym spelled)));
      gate = omega
          (arith, i.gate, size, opened_size x more rest e, ap length spelled, length-append (all_opened plain i.records) (opened plain x), length-part x);
      moment = step ∙ (ap (λ o. after_record o x) i.moment ∙ sym (after_records-last first i.records x));
    }

pub area_dated : (bytes snapshot rest : List ℕ) (first last : Option ℕ) → bytes ≡ part plain snapshot ++ rest → first ≡ moment_of snapshot →
    HaveMoment rest first last → HasMoment bytes last
area_dated bytes snapshot rest first last p e h = record {
  snapshot = snapshot;
  records = h.records;
  area = record {
    rest = h.rest;
    parts = p ∙
        (ap (λ (l : List ℕ). part plain snapshot ++ l) h.parts ∙ sym (append_assoc (part plain snapshot) (all_opened plain h.records) (CLOSED ∷ h.rest)));
  };
  moment = h.moment ∙ ap (λ o. after_records o h.records) e;
}

pub moment_exact : (bytes : List ℕ) (r : Result (Option ℕ) Damaged) (s : List ℕ) (xs : List (List ℕ)) → length bytes < 2 ^ 32 → IfOk r (HasMoment bytes) →
    OnErr r ((t : List ℕ) (ys : List (List ℕ)) → IsArea plain bytes t ys → ⊥)
    → IsArea plain bytes s xs → r ≡ Ok (after_records (moment_of s) xs)
moment_exact bytes (Ok last) s xs few h none a =
    let one = area_once bytes h.snapshot s h.records xs few h.area a in
    ap (λ o. Ok o) (h.moment ∙ (ap (λ (t : List ℕ). after_records (moment_of t) h.records) one.0 ∙ ap (λ ys. after_records (moment_of s) ys) one.1))
moment_exact bytes (Err d) s xs few h none a = absurd (none s xs a)

-- Changes that are spelled with their moments.

module _ {S C : Type 0} (f : Format S C) where
  part_dated : HasSum f → (a : List ℕ) → part (dated f) a ≡ part plain a
  unfolding part
  part_dated sum a = rw (sum (word32 (length a)), sum a) refl

  all_dated : HasSum f → (xs : List (Dated C)) → all_opened (dated f) xs ≡ all_opened plain (map (dated f).spelled xs)
  all_dated sum [] = refl
  all_dated sum (x ∷ xs) =
      ap (λ (l : List ℕ). (OPEN ∷ l) ++ all_opened (dated f) xs) (part_dated sum ((dated f).spelled x)) ∙
      ap (λ (l : List ℕ). opened plain ((dated f).spelled x) ++ l) (all_dated sum xs)

  pub plain_area : (bytes : List ℕ) (s : Dated S) (xs : List (Dated C)) → HasSum f → IsArea (dated f) bytes s xs →
      IsArea plain bytes ((dated f).snapshot s) (map (dated f).spelled xs)
  plain_area bytes s xs sum a = record {
    rest = a.rest;
    parts =
        a.parts ∙ ap (λ (l : List ℕ). l ++ CLOSED ∷ a.rest)
        (ap (λ (l : List ℕ). l ++ all_opened (dated f) xs) (part_dated sum ((dated f).snapshot s)) ∙
        ap (λ (l : List ℕ). part plain ((dated f).snapshot s) ++ l) (all_dated sum xs));
  }

  moment_again : (m : ℕ) (bytes : List ℕ) → m < 2 ^ 64 → moment_of (dated_bytes m bytes) ≡ Some m
  moment_again m bytes small =
      let long : ltb (length (word64 m ++ bytes)) 8 ≡ false = le-ltb _ _ (omega (arith, length-append (word64 m) bytes, length-word64 m)) in
      ap (λ (b : Bool). cond b None (Some (from_be_bytes w64 (take 8 (word64 m ++ bytes))))) long
      ∙ (ap (λ (l : List ℕ). Some (from_be_bytes w64 l)) (take_at (word64 m) bytes 8 (length-word64 m)) ∙ ap (λ n. Some n) (word64_again m small))

  none_stays : (xs : List (Dated C)) (u : Dated S) → after_changes (dated f) None xs ≡ Some u → ⊥
  none_stays [] u e = absurd cc
  none_stays (x ∷ xs) u e = none_stays xs u e

  mapped : (x : Dated C) (o : Option S) (t : Dated S) → option_map (after_dated x) o ≡ Some t → t.moment ≡ x.moment
  mapped x (Some s) t e = let same : after_dated x s ≡ t = cc in ap (λ (d : Dated S). d.moment) (sym same)
  mapped x None t e = absurd cc

  not_earlier : (x : Dated C) (b : Bool) (o : Option S) (t : Dated S) → cond b None (option_map (after_dated x) o) ≡ Some t →
      (b ≡ false) × (t.moment ≡ x.moment)
  not_earlier x true o t e = absurd cc
  not_earlier x false o t e = (refl, mapped x o t e)

  after_one : (s t : Dated S) (x : Dated C) → apply_dated f s x ≡ Some t → after_record (Some s.moment) ((dated f).spelled x) ≡ Some t.moment
  after_one s t x e =
      let h = not_earlier x (ltb x.moment s.moment) (f.apply s.made x.made) t e in
      rw (moment_again x.moment (f.spelled x.made) x.fits, h.0, h.1) refl

  -- one more change, by what is known of the others
  then_moment : (s u : Dated S) (x : Dated C) (xs : List (Dated C)) (r : Option (Dated S)) → apply_dated f s x ≡ r
      → ((o : Option (Dated S)) → after_changes (dated f) o xs ≡ Some u →
      after_records (option_map (λ (d : Dated S). d.moment) o) (map (dated f).spelled xs) ≡ Some u.moment)
      → after_changes (dated f) r xs ≡ Some u → after_records (after_record (Some s.moment) ((dated f).spelled x)) (map (dated f).spelled xs) ≡ Some u.moment
  then_moment s u x xs None g others e = absurd (none_stays xs u e)
  then_moment s u x xs (Some t) g others e = ap (λ (p : Option ℕ). after_records p (map (dated f).spelled xs)) (after_one s t x g) ∙ others (Some t) e

  moments : (o : Option (Dated S)) (u : Dated S) (xs : List (Dated C)) → after_changes (dated f) o xs ≡ Some u →
      after_records (option_map (λ (d : Dated S). d.moment) o) (map (dated f).spelled xs) ≡ Some u.moment
  moments o u [] e = ap (λ (p : Option (Dated S)). option_map (λ (d : Dated S). d.moment) p) e
  moments None u (x ∷ xs) e = moments None u xs e
  moments (Some s) u (x ∷ xs) e = then_moment s u x xs (apply_dated f s x) refl (λ o g. moments o u xs g) e

  pub last_of : (s u : Dated S) (xs : List (Dated C)) → after_changes (dated f) (Some s) xs ≡ Some u →
      after_records (moment_of ((dated f).snapshot s)) (map (dated f).spelled xs) ≡ Some u.moment
  last_of s u xs e = ap (λ (p : Option ℕ). after_records p (map (dated f).spelled xs)) (moment_again s.moment (f.snapshot s.made) s.fits) ∙
      moments (Some s) u xs e
