-- Hardening and dropping are walks.
use Rattle.std.proofs.Common.{◌≡◌, ℕ, zero, suc, ◌-◌, ◌+◌, ◌≤◌, Bool, true, false, if◌then◌else◌, List, [], ◌∷◌, length, get_or, Some, refl, sym, ap, ◌∙◌, arith}
use Rattle.std.proofs.lemmas.Option.{slice_get-get_or}
use Rattle.std.specs.Prelude.{◌&&◌, nat_le}
use Rattle.st_base.specs.declared.ids.FileId.{FileId}
use Rattle.st_base.specs.declared.ids.PageNo.{PageNo}
use Rattle.st_rules.specs.declared.log.Cause.{Cause}
use Rattle.st_rules.specs.declared.log.Fate.{Fate}
use Rattle.st_rules.specs.declared.log.Fate.TheVariants.{Pending, Hard, Gone}
use Rattle.st_rules.specs.declared.log.LogOwner.{LogOwner}
use Rattle.st_rules.specs.declared.log.LogEntry.{LogEntry}
use Rattle.st_rules.specs.FlatLog.{entry_at, harden, harden_at, same_owner, harder, lost, harder_entry, hardened, harden_from, lost_entry, dropped, drop_from, drop_picked, is_number, always, gone}
use Rattle.st_model.specs.Walks.{marked_fate, with_fate, mark_from, hardens, drops}

harder_is : (f : Fate) → harder f ≡ marked_fate f Hard
harder_is Pending = refl
harder_is Hard = refl
harder_is (Gone c) = refl

lost_is : (cause : Cause) (f : Fate) → lost cause f ≡ marked_fate f (Gone cause)
lost_is cause Pending = refl
lost_is cause Hard = refl
lost_is cause (Gone c) = refl

stays : (f : Fate) → f ≡ marked_fate f Pending
stays Pending = refl
stays Hard = refl
stays (Gone c) = refl

by_test : (b : Bool) (e : LogEntry) (g h : Fate) → h ≡ marked_fate e.fate g → (if b then with_fate h e else e) ≡ with_fate (marked_fate e.fate (if b then g else Pending)) e
by_test true e g h q = ap (λ f. with_fate f e) q
by_test false e g h q = ap (λ f. with_fate f e) (stays e.fate)

pub harden_is : (index : ℕ) (o : LogOwner) (n : ℕ) (es : List LogEntry) → harden_from n index o es ≡ mark_from (hardens index o) n es
unfolding harden_from hardened harder_entry
harden_is index o n [] = refl
harden_is index o n (e ∷ es) = λ i. by_test (nat_le n index && same_owner e.of o) e Hard (harder e.fate) (harder_is e.fate) i ∷ harden_is index o (n + 1) es i

pub drop_is : (picked : ℕ → LogOwner → Bool) (cause : FileId → PageNo → Cause) (n : ℕ) (es : List LogEntry) → drop_from n picked cause es ≡ mark_from (drops picked cause) n es
unfolding drop_from dropped lost_entry
drop_is picked cause n [] = refl
drop_is picked cause n (e ∷ es) = λ i. by_test (picked n e.of) e (Gone (cause e.of.file e.of.page)) (lost (cause e.of.file e.of.page) e.fate) (lost_is (cause e.of.file e.of.page) e.fate) i ∷ drop_is picked cause (n + 1) es i

pub drop_picked_is : (picked : ℕ → LogOwner → Bool) (cause : FileId → PageNo → Cause) (es : List LogEntry) → drop_picked es picked cause ≡ mark_from (drops picked cause) 1 es
unfolding drop_picked
drop_picked_is picked cause es = drop_is picked cause 1 es

-- one entry is gone
pub gone_is : (index : ℕ) (cause : Cause) (es : List LogEntry) → gone es index cause ≡ mark_from (drops (is_number index) (always cause)) 1 es
unfolding gone
gone_is index cause es = drop_picked_is (is_number index) (always cause) es

-- an entry of a log, by its number
entry_known : (es : List LogEntry) (index : ℕ) (d : LogEntry) → 1 ≤ index → index ≤ length es → entry_at es index ≡ Some (get_or es (index - 1) d)
entry_known es zero d low high = grind arith
entry_known es (suc n) d low high =
    let back : suc n - 1 ≡ n = omega arith in
    rw back (slice_get-get_or es n d (omega arith))

-- an entry hardens with the earlier ones of its owner
pub harden_marks : (es : List LogEntry) (index : ℕ) (d x : LogEntry) → 1 ≤ index → index ≤ length es → x ≡ get_or es (index - 1) d →
    mark_from (hardens index x.of) 1 es ≡ harden es index
unfolding harden harden_at
harden_marks es index d x low high at = sym (harden_is index x.of 1 es) ∙ rw (entry_known es index d low high, at) refl

fate_twice : (f g h : Fate) → marked_fate (marked_fate f g) h ≡ marked_fate f (marked_fate g h)
fate_twice Pending g h = refl
fate_twice Hard g h = refl
fate_twice (Gone c) g h = refl

-- Two passes are one: what the first leaves pending gets the fate of the second. So the lives that one advance ends are one
-- marking, and what is seen of them comes by rising number.
pub mark_twice : (a b : ℕ → LogOwner → Fate) (n : ℕ) (es : List LogEntry) → mark_from b n (mark_from a n es) ≡ mark_from (λ k o. marked_fate (a k o) (b k o)) n es
mark_twice a b n [] = refl
mark_twice a b n (e ∷ es) = λ i. with_fate (fate_twice e.fate (a n e.of) (b n e.of) i) e ∷ mark_twice a b (n + 1) es i
