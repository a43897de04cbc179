-- What a call that restores extents from a list of mapped pages answers.
use Rattle.std.specs.Prelude.{ℕ, ◌≡◌, ◌≤◌, ◌<◌, ◌^◌, true, false, All, List, [], ◌∷◌, ◌++◌, find, is_some, ⊤}
use Rattle.std.specs.List.{AllByRecursion, IsDistinct, list_any}
use Rattle.st_rules.specs.declared.extents.Extent.{Extent}
use Rattle.st_rules.specs.Extents.{Extents, is_extent_of, lies_at}
use Rattle.st_base.specs.declared.disk.BlockAt.{BlockAt}
use Rattle.st_extents.specs.Ownership.{IsOwned, is_own_block, of_one_birth, of_one_page, on_one_block}
use Rattle.st_extents.specs.Places.{Mapping, is_among}
use Rattle.st_extents.specs.declared.restored.RestoreRefusal.{RestoreRefusal}
use Rattle.st_extents.specs.declared.restored.RestoreRefusal.TheVariants.{WrongBirth, WrongPage, PageTwice, NotOwn, BlockTwice, Memory}

-- each birth is higher than the number before it, and no birth is above the number of births
abbrev pub AreBorn : ℕ → List Extent → ℕ → Type 0
AreBorn before [] births = before ≤ births
AreBorn before (e ∷ es) births = (before < e.birth) × AreBorn e.birth es births

-- the births of the pages rise from 1 on, there were as many births as are told, and fewer than 2^63
pub record AreBirths (x : Extents) : Type 0 where
  pub rise : AreBorn 0 x.rows x.births
  pub few : x.births < 2 ^ 63

-- what always holds of a server's extents
pub record CanBe (x : Extents) : Type 0 where
  pub births : AreBirths x
  pub low : All (λ e. e.page.0 < 1048576) x.rows
  pub owned : IsOwned x

-- Each refusal says what does not hold of the extents, though it holds of every server's; or that memory ran out.
abbrev pub IsRefused : RestoreRefusal → Extents → Type 0
IsRefused WrongBirth x = AreBirths x → ⊥
IsRefused WrongPage x = All (λ e. e.page.0 < 1048576) x.rows → ⊥
IsRefused PageTwice x = IsDistinct of_one_page x.rows → ⊥
IsRefused NotOwn x = All (λ e. is_own_block x e.at ≡ true) x.rows → ⊥
IsRefused BlockTwice x = IsDistinct on_one_block x.rows → ⊥
IsRefused Memory x = ⊤

-- a page may have been mapped so after the others
pub record FollowsOn (g : Mapping) (e : Extent) : Type 0 where
  pub born : g.births < e.birth
  pub few : e.birth < 2 ^ 63
  pub low : e.page.0 < 1048576
  pub page : is_some (find (is_extent_of e.file e.page) g.rows) ≡ false
  pub own : is_among g.own e.at ≡ true
  pub block : list_any (lies_at e.at) g.rows ≡ false

-- why a page cannot have been mapped so after the others, or that memory ran out
abbrev pub IsAgainst : RestoreRefusal → Mapping → Extent → Type 0
IsAgainst WrongBirth g e = g.births < e.birth → e.birth < 2 ^ 63 → ⊥
IsAgainst WrongPage g e = 1048576 ≤ e.page.0
IsAgainst PageTwice g e = is_some (find (is_extent_of e.file e.page) g.rows) ≡ true
IsAgainst NotOwn g e = is_among g.own e.at ≡ false
IsAgainst BlockTwice g e = list_any (lies_at e.at) g.rows ≡ true
IsAgainst Memory g e = ⊤

-- the birth of the last page, or the number if there is none
abbrev pub last_birth : ℕ → List Extent → ℕ
last_birth before [] = before
last_birth before (e ∷ es) = last_birth e.birth es

-- what holds of pages that were mapped one after another on these blocks
pub record AreLaid (own : List BlockAt) (births : ℕ) (rows : List Extent) : Type 0 where
  pub last : births ≡ last_birth 0 rows
  pub few : births < 2 ^ 63
  pub given : All (λ e. e.birth ≤ births) rows
  pub among : All (λ e. is_among own e.at ≡ true) rows
  pub pages : IsDistinct of_one_page rows
  pub blocks : IsDistinct on_one_block rows
  pub born : IsDistinct of_one_birth rows

-- the page is not the server's: what is against it, after these pages
abbrev pub IsRefusedAt : RestoreRefusal → List BlockAt → List Extent → Type 0
IsRefusedAt f own rows =
    (e : Extent) ×
    ((done : List Extent) ×
    ((rest : List Extent) ×
    ((births : ℕ) ×
    ((rows ≡ done ++ e ∷ rest) × ((births ≡ last_birth 0 done) × IsAgainst f (record { own = own; rows = done; births = births; runs = [] }) e)))))
