-- What holds of a value, if there is one.
use Rattle.std.proofs.Common.{◌≡◌, Bool, true, false, Option, Some, None, refl, if◌then◌else◌}
use Rattle.std.specs.Prelude.{option_map, option_and_then}
use Rattle.st_laws_volume.specs.Options.{OnSome}

pub on_map : {A B : Type 0} (P : B → Type 0) (f : A → B) (o : Option A) → OnSome (λ x. P (f x)) o → OnSome P (option_map f o)
on_map P f None h = tt
on_map P f (Some x) h = h

pub on_then : {A B : Type 0} (P : B → Type 0) (f : A → Option B) (o : Option A) → OnSome (λ x. OnSome P (f x)) o → OnSome P (option_and_then f o)
on_then P f None h = tt
on_then P f (Some x) h = h

pub on_if : {A : Type 0} (P : A → Type 0) (b : Bool) (o : Option A) → OnSome P o → OnSome P (if b then o else None)
on_if P true o h = h
on_if P false o h = tt

pub on_else : {A : Type 0} (P : A → Type 0) (b : Bool) (o : Option A) → OnSome P o → OnSome P (if b then None else o)
on_else P true o h = tt
on_else P false o h = h

pub on_all : {A : Type 0} (P : A → Type 0) → ((x : A) → P x) → (o : Option A) → OnSome P o
on_all P h None = tt
on_all P h (Some x) = h x

pub on_more : {A : Type 0} (P Q : A → Type 0) → ((x : A) → P x → Q x) → (o : Option A) → OnSome P o → OnSome Q o
on_more P Q h None p = tt
on_more P Q h (Some x) p = h x p

pub on_true : {A : Type 0} (P : A → Type 0) (b : Bool) (o : Option A) → (b ≡ true → OnSome P o) → OnSome P (if b then o else None)
on_true P true o h = h refl
on_true P false o h = tt
