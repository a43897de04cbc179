-- One association among those of a client: those before it and those after it.
use Rattle.st_lemmas.proofs.Words
use Words.{◌≡◌, ◌⊎◌, List, [], ◌∷◌, ◌++◌, refl, sym, ap, ◌∙◌, inl, inr, map, ServerId}
use Words.ClientState.{Association}
use Words.Lists.{Has}
use Rattle.st_laws_steps.specs.Lives.Lives.{Once, server_number}
use Rattle.st_laws_steps.proofs.Lives.Associations.{has_number}
use Rattle.st_laws_pages.proofs.Flush.Keeping.{OfOthers}

-- those before and after one of them
pub has_mid : (done rest : List Association) (a : Association) → Has a (done ++ a ∷ rest)
has_mid [] rest a = inl refl
has_mid (d ∷ done) rest a = inr (has_mid done rest a)

pub has_others : (done rest : List Association) (a b : Association) → Has b (done ++ rest) → Has b (done ++ a ∷ rest)
has_others [] rest a b i = inr i
has_others (d ∷ done) rest a b (inl e) = inl e
has_others (d ∷ done) rest a b (inr i) = inr (has_others done rest a b i)

pub has_split : (done rest : List Association) (u b : Association) → Has b ((done ++ u ∷ []) ++ rest) → Has b (done ++ rest) ⊎ (b ≡ u)
has_split [] rest u b (inl e) = inr e
has_split [] rest u b (inr i) = inl i
has_split (d ∷ done) rest u b (inl e) = inl (inl e)
has_split (d ∷ done) rest u b (inr i) = go (has_split done rest u b i)
  where
    go : Has b (done ++ rest) ⊎ (b ≡ u) → Has b (d ∷ done ++ rest) ⊎ (b ≡ u)
    go (inl j) = inl (inr j)
    go (inr j) = inr j

pub others_apart : (done rest : List Association) (a : Association) → Once (map server_number (done ++ a ∷ rest)) → OfOthers a.server (done ++ rest)
others_apart [] rest a o b i e = o.first (server_number b) (has_number rest b i) (sym e)
others_apart (d ∷ done) rest a o b (inl q) e = o.first (server_number a) (has_number (done ++ a ∷ rest) a (has_mid done rest a)) (ap server_number (sym q) ∙ e)
others_apart (d ∷ done) rest a o b (inr i) e = others_apart done rest a o.rest b i e

pub numbers_kept : (done rest : List Association) (a u : Association) → u.server ≡ a.server → map server_number ((done ++ u ∷ []) ++ rest) ≡ map server_number (done ++ a ∷ rest)
numbers_kept [] rest a u e = ap (λ (s : ServerId). s.0 ∷ map server_number rest) e
numbers_kept (d ∷ done) rest a u e = ap (λ z. server_number d ∷ z) (numbers_kept done rest a u e)
