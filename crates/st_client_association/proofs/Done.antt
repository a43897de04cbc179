-- Commands that end: which they are, and what stays.
use Rattle.st_lemmas.proofs.Words
use Words.{◌≡◌, ℕ, Bool, true, not, List, Option, Some, None, refl, sym, ap, option_map, unwrap_or, list_all, eqb-true, PageNo, IoKind, PageCommand}
use Words.Tables.{found_at}
use Words.ClientInvariants.{is_below}
use Words.ClientPages.{Pages, command_of, end_at, end_command, fill, is_numbered}
use Rattle.st_flush.specs.Calls.{told}
use Rattle.st_client_association.proofs.TurnInvariants.{below_fewer}

-- the command that is told
pub some_told : (cs : List PageCommand) (n ino : ℕ) (p : PageNo) (kind : IoKind) → Some (ino, p, kind) ≡ option_map told (command_of cs n) → Some (record { number = n; ino = ino; page = p; kind = kind }) ≡ command_of cs n
some_told cs n ino p kind e = by (command_of cs n) refl e
  where
    by : (o : Option PageCommand) → command_of cs n ≡ o → Some (ino, p, kind) ≡ option_map told o → Some (record { number = n; ino = ino; page = p; kind = kind }) ≡ o
    by None f e = cc
    by (Some c) f e =
        let q : c.number ≡ n = eqb-true _ _ (found_at (is_numbered n) cs c f).0 in
        let f : (ino, p, kind) ≡ told c = ap (λ z. unwrap_or z (ino, p, kind)) e in
        let i : ino ≡ c.ino = ap (λ z. z.0) f in
        let g : p ≡ c.page = ap (λ z. z.1) f in
        let k : kind ≡ c.kind = ap (λ z. z.2) f in
        λ j. Some (record { number = sym q j; ino = i j; page = g j; kind = k j })

-- numbers stay below when a command ends
pub below_ended : (next : ℕ) (cs : List PageCommand) (n : ℕ) (ok : Bool) (version : ℕ) → list_all (is_below next) cs ≡ true → list_all (is_below next) (end_command cs n ok version).commands ≡ true
unfolding end_command end_at
below_ended next cs n ok version h = by (command_of cs n)
  where
    by : (o : Option PageCommand) → list_all (is_below next) (end_at cs n ok version o).commands ≡ true
    by None = h
    by (Some c) = below_fewer next (λ d. not (is_numbered n d)) cs h

-- versions stay
pub version_filled : (ps : Pages) (ino : ℕ) (p : PageNo) (bytes : List ℕ) → (fill ps ino p bytes).next_version ≡ ps.next_version
unfolding fill
version_filled ps ino p bytes = refl
