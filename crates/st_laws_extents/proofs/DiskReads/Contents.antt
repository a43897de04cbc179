-- The content of a page through a client's outputs that do not change it, and through entries that do not touch it.
use Rattle.st_lemmas.proofs.Words
use Words.{◌≡◌, Bool, true, false, ◌&&◌, List, [], ◌∷◌, ◌++◌, Option, Some, None, refl, sym, ap, ◌∙◌, inl, inr, ClientId, FileId, PageNo, ServerId, Note}
use Words.{Output, PageCommand, LogEntry}
use Words.Page.{filled}
use Words.notes
use Words.outputs
use Words.ClientState.{ClientState}
use Words.Events as ev
use Words.Events.{WorldTurn, client_says, client_says_all}
use Words.FlatLog as log
use Words.FlatLog.{content, matters, touches}
use Words.Keys.{same_file, same_page}
use Words.World.{WorldClient, site_of}
use Words.Lists.{Has}
use Words.Lookups.{if_false}
use Rattle.st_lemmas.proofs.Contents.{content_last}
use Rattle.st_laws_pages.proofs.Disks.Law.{same_place_is}
use Rattle.st_laws_extents.specs.DiskReads.OutstandingReads.{Unchanged}

-- one entry that does not touch the page
pub content_more : (f : FileId) (p : PageNo) (es : List LogEntry) (e : LogEntry) → touches f p e ≡ false → content (es ++ e ∷ []) f p ≡ content es f p
unfolding content log.after
content_more f p es e n = content_last (filled 0) f p es e ∙ if_false (matters f p e) _ _ (ap (λ t. t && log.counts e.fate) n)

pub content_others : (f : FileId) (p : PageNo) (es more : List LogEntry) → ((e : LogEntry) → Has e more → touches f p e ≡ true → ⊥) → content (es ++ more) f p ≡ content es f p
content_others f p es [] n = ap (λ l. content l f p) (none es)
  where
    none : (xs : List LogEntry) → xs ++ [] ≡ xs
    none [] = refl
    none (x ∷ xs) = ap (λ z. x ∷ z) (none xs)
content_others f p es (e ∷ more) n = ap (λ l. content l f p) (sym (assoc es)) ∙ content_others f p (es ++ e ∷ []) more (λ x i. n x (inr i)) ∙ content_more f p es e (untouched (touches f p e) refl)
  where
    assoc : (xs : List LogEntry) → (xs ++ e ∷ []) ++ more ≡ xs ++ e ∷ more
    assoc [] = refl
    assoc (x ∷ xs) = ap (λ z. x ∷ z) (assoc xs)

    untouched : (b : Bool) → touches f p e ≡ b → b ≡ false
    untouched false q = refl
    untouched true q = absurd (n e (inl refl) q)

-- outputs
module _ (c : ClientId) (before : ClientState) (sv : ServerId) (pc : PageCommand) (f : FileId) (server : f.server ≡ sv) (ino : f.ino ≡ pc.ino) where
  place : (g : FileId) (q : PageNo) → (ChangesAt : Type 0) → (g ≡ f → q ≡ pc.page → ChangesAt) → (b : Bool) → (same_file g f && same_page q pc.page) ≡ b → (ChangesAt → ⊥) → b ≡ false
  place g q C to false e n = refl
  place g q C to true e n = let z = same_place_is g f q pc.page e in absurd (n (to z.0 z.1))

  one : (o : Output) (sc : WorldTurn) → Unchanged sv pc (o ∷ []) → content (client_says sc c before o).world.log f pc.page ≡ content sc.world.log f pc.page
  unfolding client_says ev.client_notes ev.sends ev.submits ev.answers_with ev.accepts ev.patches ev.loses log.accept log.patch
  one (outputs.Send m) sc u = refl
  one (outputs.Submit number at what) sc u = go (site_of sc.world c)
    where
      go : (o : Option WorldClient) → content (ev.submits sc c o number at what).world.log f pc.page ≡ content sc.world.log f pc.page
      go None = refl
      go (Some s) = refl
  one (outputs.Answer op a) sc u = refl
  one (outputs.Note n) sc u = note n u
    where
      note : (n : Note) → Unchanged sv pc (outputs.Note n ∷ []) → content (ev.client_notes sc c before n).world.log f pc.page ≡ content sc.world.log f pc.page
      note (notes.Accepted g q bytes) u =
          content_more f pc.page sc.world.log _ (place g q ((g ≡ f) × (q ≡ pc.page)) (λ a b. (a, b)) (same_file g f && same_page q pc.page) refl (λ z. u (notes.Accepted g q bytes) (inl refl) f pc.page (sym z.0, sym z.1) server ino refl))
      note (notes.Patched g q at bytes) u =
          content_more f pc.page sc.world.log _ (place g q ((g ≡ f) × (q ≡ pc.page)) (λ a b. (a, b)) (same_file g f && same_page q pc.page) refl (λ z. u (notes.Patched g q at bytes) (inl refl) f pc.page (sym z.0, sym z.1) server ino refl))
      note (notes.Lost s life) u = refl
      note n u = refl

  pub content_said : (os : List Output) (sc : WorldTurn) → Unchanged sv pc os → content (client_says_all c before os sc).world.log f pc.page ≡ content sc.world.log f pc.page
  unfolding client_says_all
  content_said [] sc u = refl
  content_said (o ∷ os) sc u = content_said os (client_says sc c before o) (λ n i. u n (inr i)) ∙ one o sc (λ n i. u n (first i))
    where
      first : {n : Note} → Has (outputs.Note n) (o ∷ []) → Has (outputs.Note n) (o ∷ os)
      first (inl e) = inl e
      first (inr i) = absurd i
