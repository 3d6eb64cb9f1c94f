-- The rows that look at the record beside: none where there is no such record.
-- Assumes nothing.
use mathlib.Core.Path.{◌≡◌, refl, sym, ap, ◌∙◌}
use mathlib.Core.Bool.{false}
use mathlib.Core.List.{List}
use Prim.Native.Nat.{ℕ, ◌+◌}
use Rattle.std.specs.Prelude.{Option, None, Some}
use Rattle.forms.specs.Form.{Form, constant, parameter, and}
use Rattle.forms.specs.Area.{form_in}
use Rattle.forms.proofs.Depends.{put_in_constant}
use Rattle.meaning.specs.Interval.{Interval}
use Rattle.meaning.specs.Rewriting.{put, only_if, parameter_to, row_to, next_row, until_later}
use Rattle.meaning.specs.Rewriting.{previous_row, since_earlier}
use Rattle.rewriting.specs.inside.Steps.{neighbour_of, in_interval, moved_by, moved_of}
use Rattle.rewriting.proofs.Shifts.{and_nothing}

module _ (m : ℕ) (forms : List (Form m)) (left : ℕ) (v : Interval) (here : ℕ) where
  pub next_beside : (near : Option ℕ)
      → only_if m (in_interval v here near) (form_in m forms left)
      ≡ next_row m forms left v here (neighbour_of near)
  unfolding next_row only_if
  next_beside None = refl
  next_beside (Some other) = refl

  pub previous_beside : (derived past : List (Form m)) (near : Option ℕ)
      → only_if m (in_interval v here near) (put m (put m (form_in m forms left) derived) past)
      ≡ previous_row m forms derived past left v here (neighbour_of near)
  unfolding previous_row only_if
  previous_beside derived past None = refl
  previous_beside derived past (Some other) = refl

  module _ (derived : List (Form m)) (first shift : ℕ) (near s : Option ℕ)
      (is : moved_of s ≡ moved_by v shift here near) where
    later_moved : (near : Option ℕ)
        → and m (put m (form_in m forms left) derived) (parameter_to m first (moved_by v shift here near))
        ≡ until_later m forms derived first left v shift here (neighbour_of near)
    unfolding until_later parameter_to
    later_moved None = and_nothing m _
    later_moved (Some other) = refl

    pub later_gone : s ≡ None
        → constant m false ≡ until_later m forms derived first left v shift here (neighbour_of near)
    unfolding parameter_to
    later_gone e =
        sym (and_nothing m _)
        ∙ ap (λ t. and m (put m (form_in m forms left) derived) (parameter_to m first t)) (sym (ap moved_of e) ∙ is)
        ∙ later_moved near

    pub later_to : (n : ℕ) → s ≡ Some n
        → and m (put m (form_in m forms left) derived) (parameter m (first + n))
        ≡ until_later m forms derived first left v shift here (neighbour_of near)
    unfolding parameter_to
    later_to n e =
        ap (λ t. and m (put m (form_in m forms left) derived) (parameter_to m first t)) (sym (ap moved_of e) ∙ is)
        ∙ later_moved near

    module _ (past : List (Form m)) where
      nothing_put : (rows : List (Form m)) (f : Form m)
          → and m f (put m (constant m false) rows) ≡ constant m false
      unfolding put
      nothing_put rows f = ap (and m f) (put_in_constant m m false _) ∙ and_nothing m f

      earlier_moved : (near : Option ℕ)
          → and m (put m (form_in m forms left) past)
          (put m (row_to m derived first (moved_by v shift here near)) past)
          ≡ since_earlier m forms derived past first left v shift here (neighbour_of near)
      unfolding since_earlier row_to
      earlier_moved None = nothing_put past _
      earlier_moved (Some other) = refl

      pub earlier_gone : s ≡ None
          → constant m false ≡ since_earlier m forms derived past first left v shift here (neighbour_of near)
      unfolding row_to
      earlier_gone e =
          sym (nothing_put past _)
          ∙ ap (λ t. and m (put m (form_in m forms left) past) (put m (row_to m derived first t) past))
          (sym (ap moved_of e) ∙ is)
          ∙ earlier_moved near

      pub earlier_to : (n : ℕ) → s ≡ Some n
          → and m (put m (form_in m forms left) past) (put m (form_in m derived (first + n)) past)
          ≡ since_earlier m forms derived past first left v shift here (neighbour_of near)
      unfolding row_to
      earlier_to n e =
          ap (λ t. and m (put m (form_in m forms left) past) (put m (row_to m derived first t) past))
          (sym (ap moved_of e) ∙ is)
          ∙ earlier_moved near
