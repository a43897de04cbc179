-- The last write of an owner, with one more command.
use Rattle.std.proofs.Common.{◌≡◌, ℕ, suc, ◌+◌, Bool, true, false, if◌then◌else◌, List, [], ◌∷◌, ◌++◌, length, refl, sym, ap, ◌∙◌, arith}
use Rattle.std.specs.Prelude.{◌&&◌, ◌==◌, Option, Some, None, unwrap_or}
use Rattle.st_rules.specs.declared.log.LogOwner.{LogOwner}
use Rattle.st_rules.specs.declared.world.Carried.{Carried}
use Rattle.st_rules.specs.declared.world.IssuedCommand.{IssuedCommand}
use Rattle.st_rules.specs.FlatLog.{same_owner}
use Rattle.st_rules.specs.World.{owner_carried}
use Rattle.st_rules.specs.Events.{carries_for, last_write, last_write_from, last_write_at}
use Rattle.st_world_parts.specs.Owners.{same_key, owner_key}

write_more : (number before : ℕ) (o : LogOwner) (c : IssuedCommand) (cs : List IssuedCommand) →
    last_write_from number before o (cs ++ c ∷ []) ≡ (if carries_for o c c.carries then number + length cs else last_write_from number before o cs)
unfolding last_write_from last_write_at
write_more number before o c [] = ap (λ n. if carries_for o c c.carries then n else before) (let s : number ≡ number + 0 = omega arith in s)
write_more number before o c (x ∷ cs) =
    write_more (number + 1) (last_write_at o number before x) o c cs
    ∙ ap (λ n. if carries_for o c c.carries then n else last_write_from (number + 1) (last_write_at o number before x) o cs) (let s : number + 1 + length cs ≡ number + suc (length cs) = omega arith in s)

and_assoc : (x y z w v : Bool) → (x && (y && (z && (w && v)))) ≡ ((x && y) && ((z && w) && v))
and_assoc true true true w v = refl
and_assoc true true false w v = refl
and_assoc true false z w v = refl
and_assoc false y z w v = refl

-- keys tell owners
pub key_tells : (a b : LogOwner) → same_key (owner_key a) (owner_key b) ≡ same_owner a b
key_tells a b = and_assoc (a.client.0 == b.client.0) (a.life.0 == b.life.0) (a.file.server.0 == b.file.server.0) (a.file.ino == b.file.ino) (a.page.0 == b.page.0)

-- one more command that carries nothing
pub last_without : (o : LogOwner) (c : IssuedCommand) (cs : List IssuedCommand) → c.carries ≡ None → last_write (cs ++ c ∷ []) o ≡ last_write cs o
unfolding last_write
last_without o c cs none = write_more 1 0 o c cs ∙ ap (λ x. if carries_for o c x then 1 + length cs else last_write_from 1 0 o cs) none

-- one more command that carries this
pub last_with : (o : LogOwner) (c : IssuedCommand) (x : Carried) (cs : List IssuedCommand) (number old : ℕ) → c.carries ≡ Some x → number ≡ length cs + 1 → old ≡ last_write cs o →
    (if same_key (owner_key (owner_carried c x)) (owner_key o) then number else old) ≡ last_write (cs ++ c ∷ []) o
unfolding last_write
last_with o c x cs number old some n h =
    (λ i. if key_tells (owner_carried c x) o i then (n ∙ (let s : length cs + 1 ≡ 1 + length cs = omega arith in s)) i else h i)
    ∙ sym (write_more 1 0 o c cs ∙ ap (λ y. if carries_for o c y then 1 + length cs else last_write_from 1 0 o cs) some)

-- a look-up that may be new
pub at_cond : (b : Bool) (v : ℕ) (x : Option ℕ) → unwrap_or (if b then Some v else x) 0 ≡ (if b then v else unwrap_or x 0)
at_cond true v x = refl
at_cond false v x = refl
