-- What is written of one order more.
use Rattle.std.proofs.Common.{◌≡◌, ℕ, ◌+◌, ◌<◌, ◌≤◌, false, Option, List, [], ◌∷◌, ◌++◌, length, take, drop, get_or, refl, ap, sym, ◌∙◌, subst, take-append-drop}
use Rattle.std.proofs.lemmas.List.{drop_all, take_more}
use Rattle.tp_common.specs.declared.watched.Watched.{Watched}
use Rattle.tp_common.specs.Watching.{Writes}
use Rattle.tp_common.proofs.WatchedWriterGrowth.{nothing_yet, writes_both}
use Rattle.tp_play.specs.TestCases.{Made}
use Rattle.tpr_ordered.specs.declared.orders.StepOrder.{StepOrder}
use Rattle.tpr_ordered.specs.Ordered.{AreOrderTexts, AreWritten, IsOrderText, none, one_more}

-- the first orders are written
abbrev pub AreFirst : {W : Type 0} → (W → Option (List ℕ)) → Made → List StepOrder → Watched W → Watched W → ℕ → Type 0
AreFirst contents made orders old new i = (text : List ℕ) × AreOrderTexts made (take i orders) text × Writes contents old new text

module _ {W : Type 0} (contents : W → Option (List ℕ)) (made : Made) where
  pub none_yet : (orders : List StepOrder) (a : Watched W) → AreFirst contents made orders a a 0
  none_yet orders a = ([], none, nothing_yet contents a)

  pub written_more : (old mid new : Watched W) (orders : List StepOrder) (i : ℕ) (order : StepOrder) → i < length orders → order ≡ get_or orders i order
      → AreFirst contents made orders old mid i → ((text : List ℕ) × IsOrderText made order text × Writes contents mid new text)
      → AreFirst contents made orders old new (i + 1)
  written_more old mid new orders i order lt is before here = (
    before.0 ++ here.0,
    subst (λ os. AreOrderTexts made os (before.0 ++ here.0)) (sym (take_more orders i order lt ∙ ap (λ o. take i orders ++ o ∷ []) (sym is)))
        (one_more (take i orders) order before.0 here.0 before.1 here.1),
    writes_both contents old mid new before.0 here.0 before.2 here.2,
  )

  pub first_of_them : (orders : List StepOrder) (old new : Watched W) (i : ℕ) → (new.failed ≡ false → length orders ≤ i) → AreFirst contents made orders old new i
      → AreWritten contents made orders old new
  first_of_them orders old new i all h =
      record {
        first = take i orders;
        others = drop i orders;
        are = sym (take-append-drop i orders);
        text = h.0;
        is = h.1;
        written = h.2;
        all = λ well. drop_all i orders (all well);
      }
