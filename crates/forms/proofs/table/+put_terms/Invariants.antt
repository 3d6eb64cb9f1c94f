-- `put_terms` goes by halves, down to one bit.
use Rattle.forms.proofs.table.+put_terms.Given as goal

abbrev pub decreases-put_terms : goal.decreases-put_terms
decreases-put_terms l = l.p
