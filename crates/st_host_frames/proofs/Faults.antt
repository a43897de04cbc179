-- How faults and items are handed on.
use Rattle.std.proofs.Common.{◌≡◌, ℕ, List, Result, Ok, Err, sym, ap, subst, ◌∙◌, inl, inr}
use Rattle.st_host_frames.specs.Results.{◌>>=◌, Fails, Gives, NotPut, Puts, Wrote}
use Rattle.st_host_frames.specs.declared.fault.HostFault.{HostFault}
use Rattle.st_host_frames.specs.declared.fault.HostFault.TheVariants as faults

-- the fault of a value is that of what is made of it
pub fails_then : {A B : Type 0} (r : Result A HostFault) (k : A → Result B HostFault) (f : HostFault) → Fails f r → Fails f (r >>= k)
fails_then r k faults.Unknown e = ap (λ x. x >>= k) e
fails_then r k faults.Range e = ap (λ x. x >>= k) e
fails_then r k (faults.Room n) e = ap (λ x. x >>= k) e
fails_then r k (faults.Frame g) e = ap (λ x. x >>= k) e
fails_then r k faults.OtherKind e = ap (λ x. x >>= k) e
fails_then r k faults.Memory e = tt

pub then_is : {A B : Type 0} (r : Result A HostFault) (k : A → Result B HostFault) (a : A) → r ≡ Ok a → (r >>= k) ≡ k a
then_is r k a e = ap (λ x. x >>= k) e

pub then_fails : {A B : Type 0} (r : Result A HostFault) (k : A → Result B HostFault) (a : A) (f : HostFault) → r ≡ Ok a → Fails f (k a) → Fails f (r >>= k)
then_fails r k a f e h = subst (λ (x : Result _ HostFault). Fails f x) (sym (then_is r k a e)) h

pub gives_same : {X Y : Type 0} (view : X → Y) (result : Result X HostFault) (due others : Result Y HostFault)
    → due ≡ others → Gives view result others → Gives view result due
gives_same view result due others e h = subst (Gives view result) (sym e) h

-- items that are due
pub is_put : {T : Type 0} (due : Result (List T) HostFault) (items before after : List T) (count : ℕ)
    → due ≡ Ok items → Wrote items before after count → Puts due before after count
is_put due items before after count e w = record { items = items; due_so = e; wrote = w }

pub not_due : {T : Type 0} (due : Result (List T) HostFault) (room : ℕ) (f : HostFault) → Fails f due → NotPut due room f
not_due due room f e = inl e

pub not_put : {T : Type 0} (due : Result (List T) HostFault) (items : List T) (room : ℕ) (f : HostFault)
    → due ≡ Ok items → NotPut (Ok items) room f → NotPut due room f
not_put due items room f e h = subst (λ (d : Result (List _) HostFault). NotPut d room f) (sym e) h
