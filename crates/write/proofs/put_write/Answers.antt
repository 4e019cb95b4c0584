use Rattle.trace.proofs.EmitLaws.{fits_first, fits_then, emitted_then}
use Rattle.write.proofs.put_write.Goals as goal

pub put_copy_on_write-requires-clause-fits : goal.put_copy_on_write-requires-clause-fits
put_copy_on_write-requires-clause-fits c = fits_first _ c.requires.fits

pub put_span-requires-clause-fits : goal.put_span-requires-clause-fits
put_span-requires-clause-fits c = fits_then c.requires.fits c.put_copy_on_write.ensures

pub returns : goal.returns
returns c = emitted_then c.put_copy_on_write.ensures c.put_span.ensures
