-- Each entry of the log has one grant, of its file: the lines of an event move both.
use Rattle.st_lemmas.proofs.Words
use Words.{◌≡◌, ℕ, Bool, true, List, [], ◌∷◌, ◌++◌, Option, Some, None, refl, sym, ap, ◌∙◌, subst, set, slice_get, suc, zero, Event, Fate}
use Words.{LogEntry, Observation}
use Words.fates
use Words.seen
use Words.FlatLog as log
use Words.History.{History, EntryGrant, recall, recall_all, remember}
use Words.Keys.{same_file}
use Words.Lines.{log_behind, log_told, fated, with_fate}
use Words.Safety.{fit_log}
use Words.World.{World, numbered, with_numbered}
use Words.Tables.{and_both, and_true}
use Words.Truth.{file_self}
use Words.Worlds.{remembered_grants}

fit_more : (gs : List EntryGrant) (es : List LogEntry) (g : EntryGrant) (e : LogEntry) → fit_log gs es ≡ true → same_file g.file e.of.file ≡ true → fit_log (gs ++ g ∷ []) (es ++ e ∷ []) ≡ true
unfolding fit_log
fit_more [] [] g e f s = and_both _ _ s refl
fit_more [] (x ∷ es) g e f s = cc
fit_more (h ∷ gs) [] g e f s = cc
fit_more (h ∷ gs) (x ∷ es) g e f s = let z = and_true (same_file h.file x.of.file) (fit_log gs es) f in and_both _ _ z.0 (fit_more gs es g e z.1 s)

-- a fate changes no file
fit_set : (gs : List EntryGrant) (es : List LogEntry) (k : ℕ) (e : LogEntry) (fate : Fate) → slice_get es k ≡ Some e → fit_log gs es ≡ true → fit_log gs (set es k (record e { fate = fate })) ≡ true
unfolding fit_log
fit_set gs [] k e fate i f = cc
fit_set [] (x ∷ es) k e fate i f = cc
fit_set (g ∷ gs) (x ∷ es) zero e fate i f = let z = and_true (same_file g.file x.of.file) (fit_log gs es) f in and_both _ _ (ap (λ (o : Option LogEntry). file_fits o) (sym i) ∙ z.0) z.1
  where
    file_fits : Option LogEntry → Bool
    file_fits None = true
    file_fits (Some y) = same_file g.file y.of.file
fit_set (g ∷ gs) (x ∷ es) (suc k) e fate i f = let z = and_true (same_file g.file x.of.file) (fit_log gs es) f in and_both _ _ z.0 (fit_set gs es k e fate i z.1)

fit_fated : (gs : List EntryGrant) (es : List LogEntry) (k : ℕ) (fate : Fate) → fit_log gs es ≡ true → fit_log gs (fated es k fate) ≡ true
fit_fated gs es k fate f = go k (log.entry_at es k) refl
  where
    at : (j : ℕ) (e : LogEntry) → numbered es j ≡ Some e → fit_log gs (with_numbered j (record e { fate = fate }) es) ≡ true
    at zero e i = cc
    at (suc j) e i = fit_set gs es j e fate i f

    go : (j : ℕ) (o : Option LogEntry) → numbered es j ≡ o → fit_log gs (with_fate j fate o es) ≡ true
    go j None i = f
    go j (Some e) i = at j e i

-- one line
fit_line : (before after : World) (h : History) (es : List LogEntry) (o : Observation) → fit_log h.grants es ≡ true → fit_log (recall before after h o).grants (log_behind after es o) ≡ true
unfolding recall log_behind log.accept log.patch log.cut
fit_line before after h es (seen.Wrote k c f p bytes) e = fit_more h.grants es _ _ e (file_self f)
fit_line before after h es (seen.Patched k c f p at bytes) e = fit_more h.grants es _ _ e (file_self f)
fit_line before after h es (seen.CutAt k f p) e = fit_more h.grants es _ _ e (file_self f)
fit_line before after h es (seen.Hardened k) e = fit_fated h.grants es k fates.Hard e
fit_line before after h es (seen.Dropped k cause) e = fit_fated h.grants es k (fates.Gone cause) e
fit_line before after h es (seen.Suspected s c start) e = e
fit_line before after h es (seen.Stolen s c life) e = e
fit_line before after h es (seen.Leased c s end) e = e
fit_line before after h es o e = e

-- the lines of an event
fit_lines : (before after : World) (os : List Observation) (h : History) (es : List LogEntry) → fit_log h.grants es ≡ true → fit_log (recall_all before after os h).grants (log_told after es os) ≡ true
unfolding recall_all log_told
fit_lines before after [] h es e = e
fit_lines before after (o ∷ os) h es e = fit_lines before after os (recall before after h o) (log_behind after es o) (fit_line before after h es o e)

pub fit_event : (before after : World) (e : Event) (os : List Observation) (h : History) (es fs : List LogEntry) → log_told after es os ≡ fs → fit_log h.grants es ≡ true → fit_log (recall_all before after os (remember before e h)).grants fs ≡ true
fit_event before after e os h es fs t f = subst (λ z. fit_log (recall_all before after os (remember before e h)).grants z ≡ true) t (fit_lines before after os (remember before e h) es (ap (λ gs. fit_log gs es) (remembered_grants before e h) ∙ f))
