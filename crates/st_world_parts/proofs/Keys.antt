-- The first life of a key, with one more life.
use Rattle.std.proofs.Common.{◌≡◌, Bool, true, false, if◌then◌else◌, List, [], ◌∷◌, ◌++◌, refl, sym, ap, ◌∙◌}
use Rattle.std.specs.Prelude.{◌&&◌, ◌==◌, find, Option, Some, None}
use Rattle.std.proofs.lemmas.Bool.{and_parts, eqb-true}
use Rattle.st_base.specs.declared.ids.ClientId.{ClientId}
use Rattle.st_base.specs.declared.ids.Life.{Life}
use Rattle.st_base.specs.declared.ids.ServerId.{ServerId}
use Rattle.st_world_parts.specs.declared.firsts.LifeKey.{LifeKey}
use Rattle.st_rules.specs.declared.world.LeaseLife.{LeaseLife}
use Rattle.st_rules.specs.World.{is_life_of}
use Rattle.st_world_parts.specs.Firsts.{same_key, life_key, key_of, first_of}

find_more : (p : LeaseLife → Bool) (xs : List LeaseLife) (e : LeaseLife) → find p (xs ++ e ∷ []) ≡ first_of (find p xs) (if p e then Some e else None)
find_more p [] e = by_head (p e)
  where
    by_head : (b : Bool) → (if b then Some e else None) ≡ first_of None (if b then Some e else None)
    by_head b = refl
find_more p (x ∷ xs) e = by_head (p x) (find_more p xs e)
  where
    by_head : (b : Bool) → find p (xs ++ e ∷ []) ≡ first_of (find p xs) (if p e then Some e else None) →
        (if b then Some x else find p (xs ++ e ∷ [])) ≡ first_of (if b then Some x else find p xs) (if p e then Some e else None)
    by_head true h = refl
    by_head false h = h

-- the first life of a key, with one more life
pub first_more : (c : ClientId) (s : ServerId) (life : Life) (xs : List LeaseLife) (e : LeaseLife) (old : Option LeaseLife) → old ≡ find (is_life_of c s life) xs →
    first_of old (if same_key (key_of e) (life_key c s life) then Some e else None) ≡ find (is_life_of c s life) (xs ++ e ∷ [])
first_more c s life xs e old h = ap (λ o. first_of o (if is_life_of c s life e then Some e else None)) h ∙ sym (find_more (is_life_of c s life) xs e)
