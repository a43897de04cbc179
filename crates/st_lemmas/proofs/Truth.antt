-- Truth values, options and keys: what a test of equality says.
use Rattle.std.proofs.Common.{Bool, None, Option, Some, ap, arith, eq-eqb, eqb-true, false, if◌then◌else◌, inl, inr, not, refl, suc, true}
use Rattle.std.proofs.Common.{zero, ℕ, ◌<◌, ◌==◌, ◌≡◌, ◌≤◌, ◌⊎◌}
use Rattle.std.proofs.lemmas.Bool.{and_parts}
use Rattle.std.specs.Option.{option_or}
use Rattle.std.specs.Prelude.{is_some}
use Rattle.st_base.specs.Mode.{covers}
use Rattle.st_base.specs.declared.disk.BlockAt.{BlockAt}
use Rattle.st_base.specs.declared.ids.ClientId.{ClientId}
use Rattle.st_base.specs.declared.ids.FileId.{FileId}
use Rattle.st_base.specs.declared.ids.ServerId.{ServerId}
use Rattle.st_base.specs.declared.mode.Mode.{Mode}
use Rattle.st_lemmas.proofs.Tables.{and_both}
use Rattle.st_rules.specs.Disks.{block}
use Rattle.st_rules.specs.Keys.{same_block, same_file}
use Rattle.st_rules.specs.declared.observation.WorldRefusal.{WorldRefusal}
use Rattle.st_base.specs.declared.mode.Mode.TheVariants as modes

pub eqb_turned : (m n : ℕ) → (m == n) ≡ (n == m)
eqb_turned m n = grind arith

pub not_both : (b : Bool) → b ≡ true → b ≡ false → ⊥
not_both true e f = cc
not_both false e f = cc

pub clash : {A : Type 0} {b : Bool} → b ≡ true → b ≡ false → A
clash x y = cc

pub some_not_none : {A : Type 0} (x : A) → ◌≡◌ {A = Option A} (Some x) None → ⊥
some_not_none x e = cc

pub none_not_some : {A : Type 0} (x : A) → ◌≡◌ {A = Option A} None (Some x) → ⊥
none_not_some x e = cc

pub false_not_true : {A : Type 0} → false ≡ true → A
false_not_true e = cc

pub below_or_not : (u v : ℕ) → (u < v) ⊎ (v ≤ u)
below_or_not u zero = inr (omega arith)
below_or_not zero (suc v) = inl (omega arith)
below_or_not (suc u) (suc v) = up (below_or_not u v)
  where
    up : (u < v) ⊎ (v ≤ u) → (suc u < suc v) ⊎ (suc v ≤ suc u)
    up (inl l) = inl (omega (arith, l))
    up (inr l) = inr (omega (arith, l))

-- one of two
pub if_either : {A : Type 0} (P : A → Type 0) (b : Bool) (x y : A) → P x → P y → P (if b then x else y)
if_either P true x y p q = p
if_either P false x y p q = q

pub eqb_self : (n : ℕ) → (n == n) ≡ true
eqb_self n = eq-eqb n n refl

pub client_is : (d c : ClientId) → (d.0 == c.0) ≡ true → d ≡ c
client_is d c e = ap (λ n. record { 0 = n }) (eqb-true d.0 c.0 e)

pub server_is : (s r : ServerId) → s.0 ≡ r.0 → s ≡ r
server_is s r e = ap (λ n. record { 0 = n }) e

pub block_is : (a b : BlockAt) → same_block a b ≡ true → a ≡ b
block_is a b h =
    let r = and_parts (a.disk.0 == b.disk.0) (a.block == b.block) h in
    (λ i. record { disk = record { 0 = eqb-true a.disk.0 b.disk.0 r.0 i }; block = eqb-true a.block b.block r.1 i })

pub file_is : (f g : FileId) → same_file f g ≡ true → f ≡ g
file_is f g h =
    let p = and_parts (f.server.0 == g.server.0) (f.ino == g.ino) h in
    (λ i. record { server = record { 0 = eqb-true f.server.0 g.server.0 p.0 i }; ino = eqb-true f.ino g.ino p.1 i })

pub file_self : (f : FileId) → same_file f f ≡ true
file_self f = and_both (f.server.0 == f.server.0) (f.ino == f.ino) (eq-eqb f.server.0 f.server.0 refl) (eq-eqb f.ino f.ino refl)

pub block_self : (b : BlockAt) → same_block b b ≡ true
block_self b = rw (eq-eqb b.disk.0 b.disk.0 refl, eq-eqb b.block b.block refl) refl

pub exclusive_covers : (m : Mode) → covers m modes.X ≡ true → m ≡ modes.X
exclusive_covers modes.None e = cc
exclusive_covers modes.S e = cc
exclusive_covers modes.X e = refl

pub or_second : (a b : Option WorldRefusal) → option_or a b ≡ None → b ≡ None
or_second None b e = e
or_second (Some x) b e = cc

pub or_first : (a b : Option WorldRefusal) → option_or a b ≡ None → a ≡ None
or_first None b q = refl
or_first (Some r) b q = cc

pub some_there : {A : Type 0} (o : Option A) → is_some o ≡ true → (x : A) × (o ≡ Some x)
some_there None e = cc
some_there (Some x) e = (x, refl)

pub none_there : {A : Type 0} (o : Option A) → not (is_some o) ≡ true → o ≡ None
none_there None e = refl
none_there (Some x) e = cc

pub nothing_there : {A : Type 0} (o : Option A) → is_some o ≡ false → o ≡ None
nothing_there None e = refl
nothing_there (Some x) e = cc
