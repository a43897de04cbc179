-- Whether an ask has something to ask, and whether a release must be sent.
use Rattle.st_lemmas.proofs.Words
use Words.{◌≡◌, ℕ, Bool, true, false, not, List, [], ◌∷◌, if◌then◌else◌, refl, is_some, slice_get, Some, None, GrantNo, PageNo}
use Rattle.st_messages.specs.declared.message.Body.{Body}
use Rattle.st_rules.specs.declared.client.Release.{Release}
use Rattle.st_client_due.specs.ClientDue.{has_release}
use Rattle.st_rules.specs.ClientPages as pages
use Rattle.st_rules.specs.ClientPasses.{is_at_hand, want_block, want_cut, want_map}
use Rattle.st_rules.specs.ClientState.{Turn}

unless : {A : Type 0} (b : Bool) (a : A) → not b ≡ is_some (if b then None else Some a)
unless true a = refl
unless false a = refl

whenever : {A : Type 0} (b : Bool) (a : A) → b ≡ is_some (if b then Some a else None)
whenever true a = refl
whenever false a = refl

-- where a page lies is asked for
pub map_wanted : (t : Turn) (ino : ℕ) (g : GrantNo) (p : PageNo) → not (is_at_hand t ino p) ≡ is_some (want_map t ino g p)
unfolding want_map
map_wanted t ino g p = unless (is_at_hand t ino p) _

-- a block is asked for
pub block_wanted : (t : Turn) (ino : ℕ) (g : GrantNo) (p : PageNo) → not (pages.is_mapped t.here.store.extents ino p) ≡ is_some (want_block t ino g p)
unfolding want_block
block_wanted t ino g p = unless (pages.is_mapped t.here.store.extents ino p) _

-- a cut is asked for
pub cut_wanted : (t : Turn) (ino : ℕ) (body : Body) (p : PageNo) → pages.is_idle t.here.store ino ≡ is_some (want_cut t ino body p)
unfolding want_cut
cut_wanted t ino body p = whenever (pages.is_idle t.here.store ino) _

-- a release must be sent if there is a first one
pub release_first : (rs : List Release) → is_some (slice_get rs 0) ≡ has_release rs
release_first [] = refl
release_first (r ∷ rs) = refl
