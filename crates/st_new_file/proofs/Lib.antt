mod NewFiles
