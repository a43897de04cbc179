-- Changes that are applied one after another.
use Rattle.std.proofs.Common.{◌≡◌, ℕ, ◌+◌, ◌^◌, ◌<◌, ◌≤◌, Bool, true, false, cond, ltb, List, [], ◌∷◌, ◌++◌, length, Option, Some, None, refl, sym, ap, ◌∙◌, subst, append_assoc, append-nil, arith, inl, inr}
use Rattle.std.specs.Prelude.{option_map}
use Rattle.std.specs.List.{AllByRecursion}
use Rattle.std.proofs.lemmas.Bool.{le-ltb}
use Rattle.std.proofs.lemmas.List.{length-append}
use Rattle.st_extents.specs.Layout.{Shape}
use Rattle.st_journal.specs.Changes.{bytes_of, fits}
use Rattle.st_journal.specs.declared.change.Change.{Change}
use Rattle.st_journal_bytes.specs.Areas.{IsClosed, IsUnread}
use Rattle.st_journal_bytes.specs.Moments.{Dated, after_dated, apply_dated, dated, dated_bytes}
use Rattle.st_journal_bytes.specs.Plain.{plain}
use Rattle.st_journal_bytes.proofs.Scans.{length-part, part_once}
use Rattle.st_journal_file.specs.Layout.{CLOSED, OPEN, after_change, after_changes, all_opened, front, opened, part}
use Rattle.st_journal_file.proofs.Groups.{after_changes-append, all_opened-append}
use Rattle.st_rules.specs.Server.{Stable}
use Rattle.st_stable_file.specs.Stables.{changed, stables}
use Rattle.st_stable_file.specs.Opened.{AreAllApplied, AreApplied, AreNotApplied, DatedFits, IsChange, IsNoChange, IsNotOpened, IsSnapshot, Opens, StopsAt}
use Rattle.st_stable_file.specs.declared.fault.StableFault.{StableFault}
use Rattle.st_stable_file.specs.declared.fault.StableFault.TheVariants as faults
use Rattle.st_journal.specs.Parts.{stable_of}
use Rattle.st_snapshot.specs.Snapshots.{snapshot}
use Rattle.st_stable_file.specs.declared.area.ChangesEnd.{ChangesEnd}
use Rattle.st_stable_file.specs.declared.area.OpenedArea.{OpenedArea}

-- a part is spelled alike in both formats

pub part_same : (a : List ℕ) → part (dated stables) a ≡ part plain a
unfolding part
part_same a = refl

pub opened_same : (x : Dated Change) → opened (dated stables) x ≡ opened plain ((dated stables).spelled x)
opened_same x = ap (λ (l : List ℕ). OPEN ∷ l) (part_same ((dated stables).spelled x))

-- a change with the moment at which it was made
abbrev change_at : (t u : Stable) (last moment : ℕ) (bytes : List ℕ) → IsChange t last bytes u moment → Dated Change
change_at t u last moment bytes i = record { moment = moment; fits = i.small; made = i.change }

spelled_so : (t u : Stable) (last moment : ℕ) (bytes : List ℕ) (i : IsChange t last bytes u moment) →
    (dated stables).spelled (change_at t u last moment bytes i) ≡ bytes
spelled_so t u last moment bytes i = sym i.parts

applied_so : (d : Dated Stable) (t u : Stable) (last moment : ℕ) (bytes : List ℕ) (i : IsChange t last bytes u moment) → d.made ≡ t → d.moment ≡ last →
    apply_dated stables d (change_at t u last moment bytes i) ≡ Some (after_dated (change_at t u last moment bytes i) u)
applied_so d t u last moment bytes i made when =
    let early : ltb moment d.moment ≡ false = le-ltb _ _ (omega (arith, i.later, when)) in
    let gives : changed d.made i.change ≡ Some u = ap (λ (s : Stable). changed s i.change) made ∙ i.applied in
    rw (early, gives) refl

each_more : {A : Type 0} (P : A → Type 0) (xs : List A) (x : A) → AllByRecursion P xs → P x → AllByRecursion P (xs ++ x ∷ [])
each_more P [] x a p = (p, tt)
each_more P (y ∷ xs) x a p = (a.0, each_more P xs x a.1 p)

pub applied_none : (bytes : List ℕ) (d : Dated Stable) (t : Stable) (first : ℕ) → d.made ≡ t → d.moment ≡ first → AreApplied bytes d bytes t first 0
applied_none bytes d t first made when = record { changes = []; parts = refl; each = tt; many = refl; state = d; leads = refl; made = made; when = when }

pub applied_more : (bytes : List ℕ) (d : Dated Stable) (rest more record_bytes : List ℕ) (t u : Stable) (last moment count : ℕ) →
    AreApplied bytes d rest t last count →
    rest ≡ opened plain record_bytes ++ more → IsChange t last record_bytes u moment → AreApplied bytes d more u moment (count + 1)
applied_more bytes d rest more record_bytes t u last moment count a e i =
    let x = change_at t u last moment record_bytes i in
    let one : all_opened (dated stables) (a.changes ++ x ∷ []) ≡ all_opened (dated stables) a.changes ++ opened plain record_bytes =
    all_opened-append (dated stables) a.changes (x ∷ []) ∙
    (ap (λ (l : List ℕ). all_opened (dated stables) a.changes ++ l) (append-nil (opened (dated stables) x) ∙
    (opened_same x ∙ ap (λ (l : List ℕ). opened plain l) (spelled_so t u last moment record_bytes i)))) in
    record {
      changes = a.changes ++ x ∷ [];
      parts = a.parts ∙ (ap (λ (l : List ℕ). all_opened (dated stables) a.changes ++ l) e ∙
          (sym (append_assoc (all_opened (dated stables) a.changes) (opened plain record_bytes) more) ∙ ap (λ (l : List ℕ). l ++ more) (sym one)));
      each = each_more DatedFits a.changes x a.each i.ranges;
      many = omega (arith, a.many, length-append a.changes (x ∷ []));
      state = after_dated x u;
      leads = after_changes-append (dated stables) (Some d) a.changes (x ∷ []) ∙
          (ap (λ (o : Option (Dated Stable)). after_change (dated stables) o x) a.leads ∙ applied_so a.state t u last moment record_bytes i a.made a.when);
      made = refl;
      when = refl;
    }

closed_open : CLOSED ≡ OPEN → ⊥
closed_open e = let g : 0 ≡ 255 = e in omega (arith, g)

head_is : (a b : ℕ) (xs ys : List ℕ) → a ∷ xs ≡ b ∷ ys → a ≡ b
head_is a b xs ys e = cc

tail_is : (a b : ℕ) (xs ys : List ℕ) → a ∷ xs ≡ b ∷ ys → xs ≡ ys
tail_is a b xs ys e = cc

-- where neither gate can be read
pub stops_unread : (bytes : List ℕ) (d : Dated Stable) (rest : List ℕ) (t : Stable) (last count whole at : ℕ) → AreApplied bytes d rest t last count →
    at + length rest ≡ whole →
    IsUnread rest → StopsAt bytes d whole at
stops_unread bytes d rest t last count whole at a p none = record {
  t = t;
  moment = last;
  count = count;
  rest = rest;
  applied = a;
  place = p;
  closed = none.closed;
  none = λ record_bytes more u later short e i. none.open_so record_bytes more short e;
}

-- where a record isn't a change that applies
pub stops_record : (bytes : List ℕ) (d : Dated Stable) (rest more record_bytes : List ℕ) (t : Stable) (last count whole at : ℕ) →
    AreApplied bytes d rest t last count →
    at + length rest ≡ whole → length rest < 2 ^ 32 → rest ≡ opened plain record_bytes ++ more →
    ((u : Stable) (moment : ℕ) → IsChange t last record_bytes u moment → ⊥) →
    StopsAt bytes d whole at
stops_record bytes d rest more record_bytes t last count whole at a p small e none = record {
  t = t;
  moment = last;
  count = count;
  rest = rest;
  applied = a;
  place = p;
  closed = λ c. closed_open (sym (head_is OPEN CLOSED (part plain record_bytes ++ more) c.rest (sym e ∙ c.parts)));
  none = λ other others u later short f i.
      let brief : length record_bytes < 2 ^ 32 = omega (arith, small, ap length e, length-append (part plain record_bytes) more, length-part record_bytes) in
      let same = part_once record_bytes other more others brief short
      (tail_is OPEN OPEN (part plain record_bytes ++ more) (part plain other ++ others) (sym e ∙ f)) in
      none u later (subst (λ (l : List ℕ). IsChange t last l u later) (sym same.0) i);
}

-- one record fewer is left
pub smaller : (rest more record_bytes : List ℕ) → rest ≡ opened plain record_bytes ++ more → length more + 1 ≤ length rest
smaller rest more record_bytes e = omega (arith, ap length e, length-append (part plain record_bytes) more)

pub refused_gate : (bytes : List ℕ) (d : Dated Stable) (rest : List ℕ) (t : Stable) (last count whole at : ℕ) (f : StableFault) →
    AreApplied bytes d rest t last count →
    at + length rest ≡ whole → IsUnread rest → f ≡ faults.Damaged at → AreNotApplied bytes d whole f
refused_gate bytes d rest t last count whole at f a p none e =
    subst (λ (g : StableFault). AreNotApplied bytes d whole g) (sym e) (stops_unread bytes d rest t last count whole at a p none)

pub refused_record : (bytes : List ℕ) (d : Dated Stable) (rest more record_bytes : List ℕ) (t : Stable) (last count whole at : ℕ) (f : StableFault) →
    AreApplied bytes d rest t last count →
    at + length rest ≡ whole → length rest < 2 ^ 32 → rest ≡ opened plain record_bytes ++ more → IsNoChange t last record_bytes at f →
    AreNotApplied bytes d whole f
refused_record bytes d rest more record_bytes t last count whole at (faults.Damaged place) a p small e h =
    subst (λ (n : ℕ). StopsAt bytes d whole n) (sym h.0) (stops_record bytes d rest more record_bytes t last count whole at a p small e h.1)
refused_record bytes d rest more record_bytes t last count whole at (faults.Snapshot g) a p small e h = absurd h
refused_record bytes d rest more record_bytes t last count whole at faults.Memory a p small e h = tt

-- a snapshot, and the changes after it
module _ (s : Shape) (bytes snapshot_bytes rest : List ℕ) (t : Stable) (moment : ℕ) (parts : bytes ≡ part plain snapshot_bytes ++ rest)
    (i : IsSnapshot s snapshot_bytes t moment) where
  abbrev first : Dated Stable
  first = record { moment = moment; fits = i.small; made = t }

  spelled_first : bytes ≡ part plain (dated_bytes moment (snapshot t)) ++ rest
  spelled_first = parts ∙ ap (λ (l : List ℕ). part plain l ++ rest) i.parts

  pub not_opened : (f : StableFault) → ((d : Dated Stable) → d.made ≡ t → d.moment ≡ moment → AreNotApplied rest d (length bytes) f) → IsNotOpened s bytes f
  not_opened (faults.Damaged at) h =
      inr (record { first = first; fits = i.fits; shape = i.shape; rest = rest; parts = spelled_first; stops = h first refl refl })
  not_opened (faults.Snapshot g) h = absurd (h first refl refl)
  not_opened faults.Memory h = tt

  whole : (changes : List (Dated Change)) (more : List ℕ) → rest ≡ all_opened (dated stables) changes ++ CLOSED ∷ more →
      bytes ≡ front (dated stables) first changes ++ CLOSED ∷ more
  whole changes more e =
      spelled_first ∙
      (ap (λ (l : List ℕ). l ++ rest) (sym (part_same (dated_bytes moment (snapshot t)))) ∙
      (ap (λ (l : List ℕ). part (dated stables) ((dated stables).snapshot first) ++ l) e ∙
      sym (append_assoc (part (dated stables) ((dated stables).snapshot first)) (all_opened (dated stables) changes) (CLOSED ∷ more))))

  pub opens : (u : Stable) (o : OpenedArea) → ((d : Dated Stable) → d.made ≡ t → d.moment ≡ moment → AreAllApplied rest d (length bytes) u o.end) →
      stable_of o.stable ≡ u → Opens s bytes o
  opens u o h e =
      let a : AreAllApplied rest first (length bytes) u o.end = h first refl refl in
      let all = whole a.applied.changes a.rest a.applied.parts in
      record {
        state = a.applied.state;
        stands = record {
          first = first;
          changes = a.applied.changes;
          area = record { rest = a.rest; parts = all };
          fits = i.fits;
          shape = i.shape;
          each = a.applied.each;
          leads = a.applied.leads;
        };
        made = a.applied.made ∙ sym e;
        when = a.applied.when;
        gate = omega (arith, a.gate, ap length all, length-append (front (dated stables) first a.applied.changes) (CLOSED ∷ a.rest));
        many = a.applied.many;
      }
