-- A rule's refusals are never that memory ran out.
use Rattle.st_lemmas.proofs.Words
use Words.{◌≡◌, ℕ, Bool, true, false, Some, None, refl, ap, ◌∙◌, subst, if◌then◌else◌, nat_lt, Option, Result, Ok, Err, ClientId, PageNo, Command}
use Words.{CommandRefusal}
use Words.Disks as disks
use Words.Disks.{Disks}
use Words.World.{numbered}
use Rattle.st_shared.specs.declared.members.Member.{Member}
use Rattle.st_shared.specs.declared.refusal.SharedRefusal.{SharedRefusal}
use Rattle.st_shared.specs.declared.refusal.SharedRefusal.TheVariants.{Late, Stopped, NoPage, Memory}
use Rattle.st_shared.specs.Calls.{Checks, DoesOrLacks, Numbers}
use Rattle.st_shared.specs.Shared as rules
use Rattle.st_shared.specs.Shared.{Shared, both, check_page, check_running, check_submit, checked, effect_timely, is_expired, member_of, submit, submitted}
use Rattle.st_shared.specs.Shared.{with_disk}

-- if a rule has a refusal that isn't lack of memory, a call that returns it does what the rule says
does_refused : (s : Shared) (rule : Result Shared SharedRefusal) (r : SharedRefusal) → rule ≡ Err r → (rule ≡ Err Memory → ⊥) → DoesOrLacks s s (Err r) rule
does_refused s rule Memory e never = absurd (never e)
does_refused s rule r e never = (e, refl)

numbers_refused : (s : Shared) (rule : Result Shared SharedRefusal) (r : SharedRefusal) → rule ≡ Err r → (rule ≡ Err Memory → ⊥) → Numbers s s (Err r) rule
numbers_refused s rule Memory e never = absurd (never e)
numbers_refused s rule r e never = (e, refl)

-- Effects.
timely_never : (s : Shared) (n : ℕ) (x : Result Disks CommandRefusal) → effect_timely s n x ≡ Err Memory → ⊥
unfolding effect_timely
timely_never s n (Err r) e = cc
timely_never s n (Ok d) e = go (is_expired (numbered s.issuers n)) e
  where
    go : (b : Bool) → (if b then Err (Late n) else Ok (with_disk s d)) ≡ Err Memory → ⊥
    go true q = cc
    go false q = cc

effect_never : (s : Shared) (n : ℕ) → rules.effect s n ≡ Err Memory → ⊥
unfolding rules.effect
effect_never s n e = timely_never s n (disks.effect s.disk n) e

pub effect_refused : (s : Shared) (n : ℕ) (r : SharedRefusal) (checked : Result (Unit {0}) SharedRefusal) → checked ≡ Err r → Checks checked (rules.effect s n) → DoesOrLacks s s (Err r) (rules.effect s n)
effect_refused s n r checked e h = does_refused s (rules.effect s n) r (subst (λ x. Checks x (rules.effect s n)) e h) (effect_never s n)

-- Submitting.
page_never : (s : Shared) (page : PageNo) → check_page s page ≡ Err Memory → ⊥
unfolding check_page
page_never s page e = go (nat_lt page.0 s.disk.blocks) e
  where
    go : (b : Bool) → ◌≡◌ {A = Result (Unit {0}) SharedRefusal} (if b then Ok tt else Err (NoPage page)) (Err Memory) → ⊥
    go true q = cc
    go false q = cc

running_never : (s : Shared) (c : ClientId) (page : PageNo) (o : Option Member) → both (check_running o c) (check_page s page) ≡ Err Memory → ⊥
unfolding both check_running
running_never s c page None e = cc
running_never s c page (Some m) e = go m.running e
  where
    go : (b : Bool) → both (if b then Ok tt else Err (Stopped c)) (check_page s page) ≡ Err Memory → ⊥
    go true q = page_never s page q
    go false q = cc

check_never : (s : Shared) (c : ClientId) (page : PageNo) (what : Command) → submit s c page what ≡ Err Memory → ⊥
unfolding submit check_submit checked
check_never s c page what e = go (both (check_running (member_of s c) c) (check_page s page)) refl e
  where
    go : (x : Result (Unit {0}) SharedRefusal) → both (check_running (member_of s c) c) (check_page s page) ≡ x → checked x (Ok (submitted s c what)) ≡ Err Memory → ⊥
    go (Ok u) i q = cc
    go (Err r) i q = running_never s c page (member_of s c) (i ∙ same r q)
      where
        same : (r : SharedRefusal) → ◌≡◌ {A = Result Shared SharedRefusal} (Err r) (Err Memory) → ◌≡◌ {A = Result (Unit {0}) SharedRefusal} (Err r) (Err Memory)
        same r q = ap (λ (x : SharedRefusal). Err x) (inside q)
          where
            inside : ◌≡◌ {A = Result Shared SharedRefusal} (Err r) (Err Memory) → r ≡ Memory
            inside q = cc

pub submit_refused : (s : Shared) (c : ClientId) (page : PageNo) (what : Command) (r : SharedRefusal) → check_submit s c page ≡ Err r → Numbers s s (Err r) (submit s c page what)
unfolding submit checked
submit_refused s c page what r e = numbers_refused s (submit s c page what) r (ap (λ x. checked x (Ok (submitted s c what))) e) (check_never s c page what)
